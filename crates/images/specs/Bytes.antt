-- Words as bytes: a word is eight bytes, the lowest first; words and rows of words stand one after the other.
use Rattle.std.specs.Prelude.{ℕ, zero, suc, ◌+◌, ◌*◌, ◌/◌, ◌%◌, List, [], ◌∷◌, ◌++◌, take, drop}

-- How many bytes a word has.
abbrev pub word_bytes : ℕ
word_bytes = 8

-- So many bytes of a number, the lowest first.
unfoldable pub low_bytes : ℕ → ℕ → List ℕ
low_bytes zero n = []
low_bytes (suc k) n = n % 256 ∷ low_bytes k (n / 256)

unfoldable pub bytes_of_word : ℕ → List ℕ
bytes_of_word n = low_bytes word_bytes n

unfoldable pub word_of_bytes : List ℕ → ℕ
word_of_bytes [] = 0
word_of_bytes (b ∷ rest) = b + 256 * word_of_bytes rest

-- The image of each element, one after the other.
unfoldable pub images : {A : Type 0} → (A → List ℕ) → List A → List ℕ
images f [] = []
images f (x ∷ rest) = f x ++ images f rest

-- So many elements, each read from the next so many bytes.
unfoldable pub pieces : {A : Type 0} → ℕ → (List ℕ → A) → ℕ → List ℕ → List A
pieces size f zero bytes = []
pieces size f (suc n) bytes = f (take size bytes) ∷ pieces size f n (drop size bytes)

-- Words.
unfoldable pub bytes_of_words : List ℕ → List ℕ
bytes_of_words words = images bytes_of_word words

unfoldable pub words_of_bytes : ℕ → List ℕ → List ℕ
words_of_bytes count bytes = pieces word_bytes word_of_bytes count bytes

-- Rows of so many words.
unfoldable pub bytes_of_rows : List (List ℕ) → List ℕ
bytes_of_rows rows = images bytes_of_words rows

unfoldable pub rows_of_bytes : ℕ → ℕ → List ℕ → List (List ℕ)
rows_of_bytes width count bytes = pieces (word_bytes * width) (words_of_bytes width) count bytes
