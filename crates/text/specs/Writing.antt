-- A page, a number's digits, columns and templates.
use Rattle.std.specs.Prelude.{ℕ, zero, suc, ◌+◌, ◌-◌, ◌*◌, ◌/◌, ◌%◌, List, [], ◌∷◌, ◌++◌, length, get_or, set}
use Rattle.std.specs.Prelude.{replicate, Option, None, Some}
use Rattle.refusal.specs.Cases.{if_less, if_equal}

-- Bytes, and how many of them are written.
pub data Page : Type 0 where
  page : List ℕ → ℕ → Page

-- One byte more; on a full page nothing.
unfoldable pub stored : Page → ℕ → Page
stored (page bytes at) b = if_less at (length bytes) (page (set bytes at b) (at + 1)) (page bytes at)

unfoldable pub written : Page → List ℕ → Page
written p [] = p
written p (b ∷ rest) = written (stored p b) rest

-- The decimal digits of a number of up to so many, and of a u64, which has 20 at most.
unfoldable pub digits_within : ℕ → ℕ → List ℕ
digits_within zero n = []
digits_within (suc k) n = if_less n 10 ((48 + n) ∷ []) (digits_within k (n / 10) ++ ((48 + n % 10) ∷ []))

unfoldable pub digits_of : ℕ → List ℕ
digits_of n = digits_within 20 n

-- Digits in groups of three: an underline stands before the last three, six and so on, where there are more.
unfoldable pub separator : ℕ → List ℕ
separator left = if_equal left 0 [] (if_equal (left % 3) 0 (95 ∷ []) [])

unfoldable pub grouped : List ℕ → List ℕ
grouped [] = []
grouped (d ∷ rest) = d ∷ (separator (length rest) ++ grouped rest)

-- So many spaces.
abbrev pub spaces : ℕ → List ℕ
spaces n = replicate n 32

-- At the left and at the right of a column; what is wider is not cut.
unfoldable pub left_in : ℕ → List ℕ → List ℕ
left_in width word = word ++ spaces (width - length word)

unfoldable pub right_in : ℕ → List ℕ → List ℕ
right_in width word = spaces (width - length word) ++ word

-- In a template `%` starts an escape. Digits in it are a column's width, of two at most; then `@` is the word, at the
-- left, a small letter the value of its place, at the right, and a capital letter the same with its digits in groups.
-- Of an escape there is its width so far; outside there is none.
unfoldable pub after : Option ℕ → ℕ → Option ℕ
after None b = if_equal b 37 (Some 0) None
after (Some width) b = if_less b 48 None (if_less 57 b None (Some (width % 10 * 10 + (b - 48))))

unfoldable pub item : List ℕ → List ℕ → ℕ → ℕ → List ℕ
item values word width b =
    if_equal b 64 (left_in width word)
    (if_less b 97 (right_in width (grouped (digits_of (get_or values (b - 65) 0))))
    (right_in width (digits_of (get_or values (b - 97) 0))))

unfoldable pub piece : List ℕ → List ℕ → Option ℕ → ℕ → List ℕ
piece values word None b = if_equal b 37 [] (b ∷ [])
piece values word (Some width) b =
    if_less b 48 (item values word width b) (if_less 57 b (item values word width b) [])

unfoldable pub filled : List ℕ → List ℕ → Option ℕ → List ℕ → List ℕ
filled values word escape [] = []
filled values word escape (b ∷ rest) = piece values word escape b ++ filled values word (after escape b) rest
