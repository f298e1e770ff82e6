-- Laws of bytes: how each loop goes from byte to byte, from word to word and from row to row.
use Prim.Native.Nat.{ℕ, zero, suc, ◌+◌, ◌-◌, ◌*◌, ◌/◌, ◌%◌, ◌<◌, ◌≤◌}
use Rattle.std.proofs.Common.{arith, add-one, mul-le-mul_left, sym, ◌∙◌, length-append, length-drop, take_all}
use Rattle.std.proofs.Common.{take-suc-set, take_at, length-take-le}
use Rattle.std.proofs.Math.Nat.{mul-zero, mul-suc}
use Rattle.std.specs.Prelude.{◌≡◌, length, take, drop, get_or, set}
use Rattle.std.proofs.Math.Path.{refl, ap}
use mathlib.Core.List.{List, [], ◌∷◌, ◌++◌, append-nil, append_assoc}
use Rattle.std.proofs.Math.Seq.{take-suc, drop-drop}
use Rattle.policy_words.specs.ByWords.{Words, by_words}
use Rattle.images.specs.Bytes.{word_bytes, low_bytes, bytes_of_word, word_of_bytes, images, pieces}
use Rattle.images.specs.Bytes.{bytes_of_words, words_of_bytes, bytes_of_rows, rows_of_bytes}

-- Eight bytes, put together two by two.
abbrev Joined : List ℕ → Type 0
Joined s =
    get_or s 0 0 + 256 * get_or s 1 0 + 65536 * (get_or s 2 0 + 256 * get_or s 3 0)
    + 4294967296 * (get_or s 4 0 + 256 * get_or s 5 0 + 65536 * (get_or s 6 0 + 256 * get_or s 7 0))
    ≡ word_of_bytes s

eight_bytes : Words word_bytes Joined
unfolding word_of_bytes
eight_bytes a b c d e f g h = omega arith

pub word_joined : {r low high a b c d : ℕ} (s : List ℕ) → length s ≡ word_bytes → r ≡ low + 4294967296 * high
    → low ≡ a + 65536 * b → high ≡ c + 65536 * d
    → a ≡ get_or s 0 0 + 256 * get_or s 1 0 → b ≡ get_or s 2 0 + 256 * get_or s 3 0
    → c ≡ get_or s 4 0 + 256 * get_or s 5 0 → d ≡ get_or s 6 0 + 256 * get_or s 7 0
    → r ≡ word_of_bytes s
word_joined s size e e₁ e₂ f₁ f₂ f₃ f₄ =
    e ∙ rw (e₁, e₂, f₁, f₂, f₃, f₄) (by_words word_bytes Joined eight_bytes s size)

-- The bytes so far and those of what is left.
pub no_byte : (word : ℕ) → low_bytes word_bytes word ≡ bytes_of_word word
unfolding bytes_of_word
no_byte word = refl

next_bytes : (left i n rest : ℕ) → suc left ≡ n - i
    → low_bytes (n - i) rest ≡ rest % 256 ∷ low_bytes (n - suc i) (rest / 256)
unfolding low_bytes
next_bytes left i n rest e =
    let less : left ≡ n - suc i = omega arith in
    rw (← e, ← less)

pub byte_put : {w : List ℕ} (n i : ℕ) (bytes : List ℕ) (rest : ℕ) → take i bytes ++ low_bytes (n - i) rest ≡ w
    → length bytes ≡ n → i < n
    → take (i + 1) (set bytes i (rest % 256)) ++ low_bytes (n - (i + 1)) (rest / 256) ≡ w
byte_put n i bytes rest so_far size h =
    let inside : i < length bytes = omega arith in
    let more : suc (n - suc i) ≡ n - i = omega arith in
    rw (
      add-one i,
      take-suc-set bytes i (rest % 256) inside,
      append_assoc,
      ← next_bytes (n - suc i) i n rest more,
    ) so_far

pub bytes_put : {w : List ℕ} (n i : ℕ) (bytes : List ℕ) (rest : ℕ) → take i bytes ++ low_bytes (n - i) rest ≡ w
    → length bytes ≡ n → n ≤ i → bytes ≡ w
unfolding low_bytes
bytes_put n i bytes rest so_far size h =
    let none : n - i ≡ 0 = omega arith in
    rw (none, append-nil, take_all i bytes (omega arith)) at so_far

-- Elements read one after the other.
module _ {A : Type 0} (size : ℕ) (f : List ℕ → A) where
  pub one_more_piece : (n : ℕ) (bytes : List ℕ)
      → pieces size f n bytes ++ (f (take size (drop (size * n) bytes)) ∷ []) ≡ pieces size f (suc n) bytes
  unfolding pieces
  one_more_piece zero bytes =
      let start : size * 0 ≡ 0 = mul-zero size in
      rw start
  one_more_piece (suc n) bytes =
      let there : size + size * n ≡ size * suc n = omega (arith, mul-suc size n) in
      rw (← there, ← drop-drop (size * n) size bytes, one_more_piece n (drop size bytes))

  module _ (xs : List A) (i : ℕ) (bytes : List ℕ) (so_far : take i xs ≡ pieces size f i bytes) where
    pub piece_read : {x : A} → i < length xs → x ≡ f (take (size * i + size - size * i) (drop (size * i) bytes))
        → take (i + 1) (set xs i x) ≡ pieces size f (i + 1) bytes
    piece_read {x} h e =
        let its : size * i + size - size * i ≡ size = omega arith in
        rw (add-one i, take-suc-set xs i x h, so_far, e, its) (one_more_piece i bytes)

    pub pieces_read : (n : ℕ) → i ≤ n → length xs ≤ i → length xs ≡ n → xs ≡ pieces size f n bytes
    pieces_read n h g e =
        let all : i ≡ n = omega arith in
        rw (← all) (sym (take_all i xs g) ∙ so_far)

-- Elements stored one after the other.
module _ {A : Type 0} (f : A → List ℕ) where
  pub images_append : (xs ys : List A) → images f (xs ++ ys) ≡ images f xs ++ images f ys
  unfolding images
  images_append [] ys = refl
  images_append (x ∷ xs) ys = rw (images_append xs ys, append_assoc)

  images_next : (d : A) (i : ℕ) (xs : List A) → i < length xs
      → images f (take i xs) ++ f (get_or xs i d) ≡ images f (take (i + 1) xs)
  unfolding images
  images_next d i xs h =
      rw (add-one i, take-suc xs i d h, images_append (take i xs) (get_or xs i d ∷ []), append-nil)

  module _ (size i : ℕ) (xs : List A) (bytes : List ℕ) (so_far : take (size * i) bytes ≡ images f (take i xs))
      (sized : length bytes ≡ size * length xs) where
    pub image_put : {part : List ℕ} (d : A) → i < length xs
        → length part ≡ length (take (size * i + size - size * i) (drop (size * i) bytes)) → part ≡ f (get_or xs i d)
        → take (size * (i + 1))
        (take (size * i) bytes ++ (part ++ drop (size * i + size - size * i) (drop (size * i) bytes)))
        ≡ images f (take (i + 1) xs)
    image_put {part} d h long e =
        let its : size * i + size - size * i ≡ size = omega arith in
        let next : size * (i + 1) ≡ size * i + size = rw (add-one i, mul-suc size i) in
        let fits : size * i + size ≤ length bytes = rw (sized, ← mul-suc size i) (mul-le-mul_left size h) in
        let front : length (take (size * i) bytes) ≡ size * i = length-take-le (size * i) bytes (omega arith) in
        let room : size ≤ length (drop (size * i) bytes) = rw (length-drop (size * i) bytes) (omega arith) in
        let whole : length part ≡ size = long ∙ rw its (length-take-le size (drop (size * i) bytes) room) in
        let both : length (take (size * i) bytes ++ part) ≡ size * i + size = rw (length-append, front, whole) in
        rw (next, its, ← append_assoc (take (size * i) bytes) part)
        (take_at (take (size * i) bytes ++ part) (drop size (drop (size * i) bytes)) (size * i + size) both
        ∙ rw (so_far, e) (images_next d i xs h))

    pub images_put : length xs ≤ i → bytes ≡ images f xs
    images_put h =
        let all : length bytes ≤ size * i = rw sized (mul-le-mul_left size h) in
        sym (take_all (size * i) bytes all) ∙ so_far ∙ ap (images f) (take_all i xs h)

-- Words, and rows of so many words.
pub no_words : (bytes : List ℕ) → [] ≡ words_of_bytes 0 bytes
unfolding words_of_bytes pieces
no_words bytes = refl

module _ (words : List ℕ) (i : ℕ) (bytes : List ℕ) (so_far : take i words ≡ words_of_bytes i bytes) where
  pub word_read : {x : ℕ} → i < length words
      → x ≡ word_of_bytes (take (word_bytes * i + word_bytes - word_bytes * i) (drop (word_bytes * i) bytes))
      → take (i + 1) (set words i x) ≡ words_of_bytes (i + 1) bytes
  unfolding words_of_bytes
  word_read h e = piece_read word_bytes word_of_bytes words i bytes so_far h e

  pub words_read : (n : ℕ) → i ≤ n → length words ≤ i → length words ≡ n → words ≡ words_of_bytes n bytes
  unfolding words_of_bytes
  words_read n h g e = pieces_read word_bytes word_of_bytes words i bytes so_far n h g e

pub no_image : [] ≡ bytes_of_words []
unfolding bytes_of_words images
no_image = refl

module _ (i : ℕ) (words bytes : List ℕ) (so_far : take (word_bytes * i) bytes ≡ bytes_of_words (take i words))
    (sized : length bytes ≡ word_bytes * length words) where
  pub word_put : {part : List ℕ} → i < length words
      → length part ≡ length (take (word_bytes * i + word_bytes - word_bytes * i) (drop (word_bytes * i) bytes))
      → part ≡ bytes_of_word (get_or words i 0)
      → take (word_bytes * (i + 1))
      (take (word_bytes * i) bytes
      ++ (part ++ drop (word_bytes * i + word_bytes - word_bytes * i) (drop (word_bytes * i) bytes)))
      ≡ bytes_of_words (take (i + 1) words)
  unfolding bytes_of_words
  word_put h long e = image_put bytes_of_word word_bytes i words bytes so_far sized 0 h long e

  pub words_put : length words ≤ i → bytes ≡ bytes_of_words words
  unfolding bytes_of_words
  words_put h = images_put bytes_of_word word_bytes i words bytes so_far sized h

-- Rows of so many words.
pub no_rows : (width : ℕ) (bytes : List ℕ) → [] ≡ rows_of_bytes width 0 bytes
unfolding rows_of_bytes pieces
no_rows width bytes = refl

module _ (rows : List (List ℕ)) (width k : ℕ) (bytes : List ℕ)
    (so_far : take k rows ≡ rows_of_bytes width k bytes) where
  pub row_read : {row : List ℕ} → k < length rows
      → row ≡ words_of_bytes width (take (word_bytes * width * k + word_bytes * width - word_bytes * width * k)
      (drop (word_bytes * width * k) bytes))
      → take (k + 1) (set rows k row) ≡ rows_of_bytes width (k + 1) bytes
  unfolding rows_of_bytes
  row_read h e = piece_read (word_bytes * width) (words_of_bytes width) rows k bytes so_far h e

  pub rows_read : (n : ℕ) → k ≤ n → length rows ≤ k → length rows ≡ n → rows ≡ rows_of_bytes width n bytes
  unfolding rows_of_bytes
  rows_read n h g e = pieces_read (word_bytes * width) (words_of_bytes width) rows k bytes so_far n h g e

pub no_row_image : [] ≡ bytes_of_rows []
unfolding bytes_of_rows images
no_row_image = refl

module _ (size k : ℕ) (rows : List (List ℕ)) (bytes : List ℕ)
    (so_far : take (size * k) bytes ≡ bytes_of_rows (take k rows)) (sized : length bytes ≡ size * length rows) where
  pub row_put : {part : List ℕ} → k < length rows
      → length part ≡ length (take (size * k + size - size * k) (drop (size * k) bytes))
      → part ≡ bytes_of_words (get_or rows k [])
      → take (size * (k + 1))
      (take (size * k) bytes ++ (part ++ drop (size * k + size - size * k) (drop (size * k) bytes)))
      ≡ bytes_of_rows (take (k + 1) rows)
  unfolding bytes_of_rows
  row_put h long e = image_put bytes_of_words size k rows bytes so_far sized [] h long e

  pub rows_put : length rows ≤ k → bytes ≡ bytes_of_rows rows
  unfolding bytes_of_rows
  rows_put h = images_put bytes_of_words size k rows bytes so_far sized h

-- A piece by its place.
module _ {A : Type 0} (size : ℕ) (f : List ℕ → A) where
  pub pieces_length : (n : ℕ) (bytes : List ℕ) → length (pieces size f n bytes) ≡ n
  unfolding pieces
  pieces_length zero bytes = refl
  pieces_length (suc n) bytes = ap suc (pieces_length n (drop size bytes))

  pub piece_at : (n k : ℕ) (bytes : List ℕ) (d : A) → k < n
      → get_or (pieces size f n bytes) k d ≡ f (take size (drop (size * k) bytes))
  unfolding pieces
  piece_at zero k bytes d h = absurd (omega arith)
  piece_at (suc n) zero bytes d h =
      let start : size * 0 ≡ 0 = mul-zero size in
      rw start
  piece_at (suc n) (suc k) bytes d h =
      let there : size + size * k ≡ size * suc k = omega (arith, mul-suc size k) in
      rw (← there, ← drop-drop (size * k) size bytes) (piece_at n k (drop size bytes) d (omega arith))

pub rows_length : (width n : ℕ) (bytes : List ℕ) → length (rows_of_bytes width n bytes) ≡ n
unfolding rows_of_bytes
rows_length width n bytes = pieces_length (word_bytes * width) (words_of_bytes width) n bytes

pub row_at : {row : List ℕ} (width n k : ℕ) (bytes : List ℕ)
    → row ≡ words_of_bytes width (take (word_bytes * width * k + word_bytes * width - word_bytes * width * k)
    (drop (word_bytes * width * k) bytes))
    → k < n → row ≡ get_or (rows_of_bytes width n bytes) k []
unfolding rows_of_bytes
row_at width n k bytes e h =
    let its : word_bytes * width * k + word_bytes * width - word_bytes * width * k ≡ word_bytes * width = omega arith in
    e ∙ rw its (sym (piece_at (word_bytes * width) (words_of_bytes width) n k bytes [] h))

pub ruleset bytings = (
  word_joined,
  no_byte,
  byte_put,
  bytes_put,
  no_words,
  word_read,
  words_read,
  no_image,
  word_put,
  words_put,
  no_rows,
  row_read,
  rows_read,
  no_row_image,
  row_put,
  rows_put,
)
