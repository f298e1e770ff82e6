-- Words go to bytes and come back as they were, and bytes to words and back.
use Prim.Native.Nat.{ℕ, zero, suc, ◌+◌, ◌*◌, ◌/◌, ◌%◌, ◌<◌}
use native.Mathlib.Omega.{arith}
use Rattle.std.proofs.Math.Nat.{mul-zero, mul-suc}
use Rattle.std.specs.Prelude.{◌≡◌, take, drop}
use Rattle.std.proofs.Math.Path.{refl, sym}
use Rattle.std.proofs.Common.{ap, ◌∙◌, length-append, take-append-drop}
use mathlib.Core.List.{List, [], ◌∷◌}
use Rattle.std.proofs.Math.ListN.{length, length-drop}
use Rattle.std.proofs.Math.Seq.{take_at, drop_at, length-take-le}
use Rattle.images.specs.Fits.{All, IsByte, IsWord, IsRow}
use Rattle.images.specs.AllLaws.{all_take, all_drop, all_append}
use Rattle.images.specs.Bytes.{word_bytes, low_bytes, bytes_of_word, word_of_bytes, images, pieces}
use Rattle.images.specs.Bytes.{bytes_of_words, words_of_bytes, bytes_of_rows, rows_of_bytes}
use Rattle.images.specs.BytesLaws.{pieces_length}

-- The numbers of so many bytes.
abbrev limit : ℕ → ℕ
limit zero = 1
limit (suc k) = 256 * limit k

-- One word.
low_bytes_length : (k n : ℕ) → length (low_bytes k n) ≡ k
unfolding low_bytes
low_bytes_length zero n = refl
low_bytes_length (suc k) n = ap suc (low_bytes_length k (n / 256))

low_bytes_back : (k n : ℕ) → n < limit k → word_of_bytes (low_bytes k n) ≡ n
unfolding low_bytes word_of_bytes
low_bytes_back zero n h = omega arith
low_bytes_back (suc k) n h = rw (low_bytes_back k (n / 256) (omega arith)) (omega arith)

low_bytes_again : (bytes : List ℕ) → All IsByte bytes → low_bytes (length bytes) (word_of_bytes bytes) ≡ bytes
unfolding low_bytes word_of_bytes
low_bytes_again [] h = refl
low_bytes_again (b ∷ rest) h =
    let first : (b + 256 * word_of_bytes rest) % 256 ≡ b = omega (arith, h.0) in
    let others : (b + 256 * word_of_bytes rest) / 256 ≡ word_of_bytes rest = omega (arith, h.0) in
    rw (first, others, low_bytes_again rest h.1)

-- Elements of the same size.
module _ {A : Type 0} (size : ℕ) (f : List ℕ → A) (g : A → List ℕ) where
  module _ (P : A → Type 0) (sized : (x : A) → P x → length (g x) ≡ size) where
    images_length : (xs : List A) → All P xs → length (images g xs) ≡ size * length xs
    unfolding images
    images_length [] h = sym (mul-zero size)
    images_length (x ∷ rest) h =
        rw (length-append, sized x h.0, images_length rest h.1, mul-suc size (length rest)) (omega arith)

    images_back : ((x : A) → P x → f (g x) ≡ x) → (xs : List A) → All P xs
        → pieces size f (length xs) (images g xs) ≡ xs
    unfolding images pieces
    images_back back [] h = refl
    images_back back (x ∷ rest) h =
        rw (
          take_at (g x) (images g rest) size (sized x h.0),
          drop_at (g x) (images g rest) size (sized x h.0),
          back x h.0,
          images_back back rest h.1,
        )

  pieces_again : ((b : List ℕ) → All IsByte b → length b ≡ size → g (f b) ≡ b) → (n : ℕ) (bytes : List ℕ)
      → All IsByte bytes → length bytes ≡ size * n → images g (pieces size f n bytes) ≡ bytes
  unfolding images pieces
  pieces_again again zero [] h e = refl
  pieces_again again zero (b ∷ rest) h e = absurd (omega (arith, mul-zero size))
  pieces_again again (suc n) bytes h e =
      let more : length bytes ≡ size * n + size = e ∙ mul-suc size n in
      let there : length (take size bytes) ≡ size = length-take-le size bytes (omega arith) in
      let left : length (drop size bytes) ≡ size * n = length-drop size bytes ∙ omega arith in
      rw (
        again (take size bytes) (all_take IsByte size bytes h) there,
        pieces_again again n (drop size bytes) (all_drop IsByte size bytes h) left,
      )
      (take-append-drop size bytes)

-- Words.
pub words_length : (words : List ℕ) → All IsWord words → length (bytes_of_words words) ≡ word_bytes * length words
unfolding bytes_of_words bytes_of_word
words_length words h =
    images_length word_bytes word_of_bytes bytes_of_word IsWord (λ n l. low_bytes_length word_bytes n) words h

pub words_back : (words : List ℕ) → All IsWord words → words_of_bytes (length words) (bytes_of_words words) ≡ words
unfolding bytes_of_words words_of_bytes bytes_of_word
words_back words h =
    images_back word_bytes word_of_bytes bytes_of_word IsWord (λ n l. low_bytes_length word_bytes n)
    (λ n l. low_bytes_back word_bytes n l) words h

word_again : (b : List ℕ) → All IsByte b → length b ≡ word_bytes → bytes_of_word (word_of_bytes b) ≡ b
unfolding bytes_of_word
word_again b h e = rw e at (low_bytes_again b h)

pub words_again : (n : ℕ) (bytes : List ℕ) → All IsByte bytes → length bytes ≡ word_bytes * n
    → bytes_of_words (words_of_bytes n bytes) ≡ bytes
unfolding bytes_of_words words_of_bytes
words_again n bytes h e = pieces_again word_bytes word_of_bytes bytes_of_word word_again n bytes h e

-- Rows of so many words.
row_length : (width : ℕ) (row : List ℕ) → IsRow width row → length (bytes_of_words row) ≡ word_bytes * width
row_length width row h = words_length row h.1 ∙ ap (λ n. word_bytes * n) h.0

row_back : (width : ℕ) (row : List ℕ) → IsRow width row → words_of_bytes width (bytes_of_words row) ≡ row
row_back width row h = rw h.0 at (words_back row h.1)

pub rows_size : (width : ℕ) (rows : List (List ℕ)) → All (IsRow width) rows
    → length (bytes_of_rows rows) ≡ word_bytes * width * length rows
unfolding bytes_of_rows
rows_size width rows h =
    images_length (word_bytes * width) (words_of_bytes width) bytes_of_words (IsRow width) (row_length width) rows h

pub rows_back : (width : ℕ) (rows : List (List ℕ)) → All (IsRow width) rows
    → rows_of_bytes width (length rows) (bytes_of_rows rows) ≡ rows
unfolding bytes_of_rows rows_of_bytes
rows_back width rows h =
    images_back (word_bytes * width) (words_of_bytes width) bytes_of_words (IsRow width) (row_length width)
    (row_back width)
    rows h

pub rows_again : (width n : ℕ) (bytes : List ℕ) → All IsByte bytes → length bytes ≡ word_bytes * width * n
    → bytes_of_rows (rows_of_bytes width n bytes) ≡ bytes
unfolding bytes_of_rows rows_of_bytes
rows_again width n bytes h e =
    pieces_again (word_bytes * width) (words_of_bytes width) bytes_of_words (words_again width) n bytes h e

-- As many as are asked for, and as wide.
pub words_count : (n : ℕ) (bytes : List ℕ) → length (words_of_bytes n bytes) ≡ n
unfolding words_of_bytes
words_count n bytes = pieces_length word_bytes word_of_bytes n bytes

all_pieces : {A : Type 0} (P : A → Type 0) (size : ℕ) (f : List ℕ → A) → ((b : List ℕ) → P (f b)) → (n : ℕ)
    (bytes : List ℕ) → All P (pieces size f n bytes)
unfolding pieces
all_pieces P size f h zero bytes = tt
all_pieces P size f h (suc n) bytes = (h (take size bytes), all_pieces P size f h n (drop size bytes))

pub rows_wide : (width n : ℕ) (bytes : List ℕ) → All (λ (r : List ℕ). length r ≡ width) (rows_of_bytes width n bytes)
unfolding rows_of_bytes
rows_wide width n bytes =
    all_pieces (λ (r : List ℕ). length r ≡ width) (word_bytes * width) (words_of_bytes width)
    (words_count width) n bytes

-- What is written is bytes, and what is read from bytes is words: what a load leaves meets the premises of a store's
-- theorem, and what a store leaves those of a load's.
low_bytes_fit : (k n : ℕ) → All IsByte (low_bytes k n)
unfolding low_bytes
low_bytes_fit zero n = tt
low_bytes_fit (suc k) n = (omega arith, low_bytes_fit k (n / 256))

images_fit : {A : Type 0} (g : A → List ℕ) → ((x : A) → All IsByte (g x)) → (xs : List A) → All IsByte (images g xs)
unfolding images
images_fit g h [] = tt
images_fit g h (x ∷ rest) = all_append IsByte (g x) (images g rest) (h x) (images_fit g h rest)

pub bytes_fit : (words : List ℕ) → All IsByte (bytes_of_words words)
unfolding bytes_of_words bytes_of_word
bytes_fit words = images_fit (low_bytes word_bytes) (low_bytes_fit word_bytes) words

pub row_bytes_fit : (rows : List (List ℕ)) → All IsByte (bytes_of_rows rows)
unfolding bytes_of_rows
row_bytes_fit rows = images_fit bytes_of_words bytes_fit rows

word_below : (bytes : List ℕ) → All IsByte bytes → word_of_bytes bytes < limit (length bytes)
unfolding word_of_bytes
word_below [] h = omega arith
word_below (b ∷ rest) h =
    let others : word_of_bytes rest < limit (length rest) = word_below rest h.1 in
    omega (arith, h.0)

word_fits : (b : List ℕ) → All IsByte b → length b ≡ word_bytes → IsWord (word_of_bytes b)
word_fits b h e = rw e at (word_below b h)

pieces_fit : {A : Type 0} (P : A → Type 0) (size : ℕ) (f : List ℕ → A)
    → ((b : List ℕ) → All IsByte b → length b ≡ size → P (f b)) → (n : ℕ) (bytes : List ℕ) → All IsByte bytes
    → length bytes ≡ size * n → All P (pieces size f n bytes)
unfolding pieces
pieces_fit P size f fits zero bytes h e = tt
pieces_fit P size f fits (suc n) bytes h e =
    let more : length bytes ≡ size * n + size = e ∙ mul-suc size n in
    let there : length (take size bytes) ≡ size = length-take-le size bytes (omega arith) in
    let left : length (drop size bytes) ≡ size * n = length-drop size bytes ∙ omega arith in (
      fits (take size bytes) (all_take IsByte size bytes h) there,
      pieces_fit P size f fits n (drop size bytes) (all_drop IsByte size bytes h) left,
    )

pub words_fit : (n : ℕ) (bytes : List ℕ) → All IsByte bytes → length bytes ≡ word_bytes * n
    → IsRow n (words_of_bytes n bytes)
unfolding words_of_bytes
words_fit n bytes h e =
    (pieces_length word_bytes word_of_bytes n bytes, pieces_fit IsWord word_bytes word_of_bytes word_fits n bytes h e)

pub rows_fit : (width n : ℕ) (bytes : List ℕ) → All IsByte bytes → length bytes ≡ word_bytes * width * n
    → All (IsRow width) (rows_of_bytes width n bytes)
unfolding rows_of_bytes
rows_fit width n bytes h e =
    pieces_fit (IsRow width) (word_bytes * width) (words_of_bytes width) (words_fit width) n bytes h e
