-- The pieces of a text, and the numbers and times that words denote.
use Rattle.std.specs.Prelude.{ℕ, suc, ◌+◌, ◌-◌, ◌*◌, Bool, true, false, List, [], ◌∷◌, length, take, get_or}
use Rattle.std.specs.Prelude.{Result, Ok, Err}
use Rattle.std.specs.List.{fold}
use Rattle.refusal.specs.Cases.{choose, if_less, if_equal, given}
use Rattle.text.specs.declared.reading.Numeral.{Numeral}
use Rattle.text.specs.declared.reading.Numeral.TheVariants as numeral
use Rattle.text.specs.declared.reading.NumberError.{NumberError}
use Rattle.text.specs.declared.reading.NumberError.TheVariants as error

-- How many bytes stand before the first b; all where none is b.
unfoldable pub before : ℕ → List ℕ → ℕ
before b [] = 0
before b (x ∷ rest) = if_equal x b 0 (suc (before b rest))

-- How many b stand at the front.
unfoldable pub run : ℕ → List ℕ → ℕ
run b [] = 0
run b (x ∷ rest) = if_equal x b (suc (run b rest)) 0

unfoldable pub same_bytes : List ℕ → List ℕ → Bool
same_bytes [] [] = true
same_bytes [] (y ∷ ys) = false
same_bytes (x ∷ xs) [] = false
same_bytes (x ∷ xs) (y ∷ ys) = if_equal x y (same_bytes xs ys) false

-- What a numeral, digits with single underlines between them, is with an underline more: one stands behind a digit
-- alone, and a digit has to follow it.
abbrev pub after_underline : Numeral → Numeral
after_underline numeral.Open = numeral.Broken
after_underline numeral.Digit = numeral.Open
after_underline numeral.Broken = numeral.Broken

-- With a digit more.
abbrev pub after_digit : Numeral → Numeral
after_digit numeral.Open = numeral.Digit
after_digit numeral.Digit = numeral.Digit
after_digit numeral.Broken = numeral.Broken

unfoldable pub state_after : Numeral → ℕ → Numeral
state_after state b =
    if_equal b 95 (after_underline state)
    (if_less b 48 numeral.Broken (if_less 57 b numeral.Broken (after_digit state)))

abbrev pub state_of : Numeral → List ℕ → Numeral
state_of state word = fold state_after state word

-- A number with one byte of a numeral more.
unfoldable pub with_byte : ℕ → ℕ → ℕ
with_byte n b = if_equal b 95 n (10 * n + (b - 48))

-- The number that a numeral denotes behind the digits of n.
unfoldable pub denoted : ℕ → List ℕ → ℕ
denoted n [] = n
denoted n (b ∷ rest) = denoted (with_byte n b) rest

-- The greatest u64.
abbrev pub most : ℕ
most = 18446744073709551615

-- A number, or why there is none.
abbrev pub Decimal : Type 0
Decimal = Result ℕ NumberError

-- The number, unless it is above the greatest.
unfoldable pub fitting : ℕ → Decimal
fitting n = if_less most n (Err error.Above) (Ok n)

-- A numeral ends with a digit.
abbrev pub is_numeral : Numeral → Bool
is_numeral numeral.Open = false
is_numeral numeral.Digit = true
is_numeral numeral.Broken = false

-- The number that a word is.
unfoldable pub decimal_of : List ℕ → Decimal
decimal_of word = choose (is_numeral (state_of numeral.Open word)) (fitting (denoted 0 word)) (Err error.NoNumeral)

-- By what a number turned out to be.
unfoldable pub on_decimal : {A : Type 0} → Decimal → (ℕ → A) → A → A → A
on_decimal (Ok n) f a b = f n
on_decimal (Err error.Above) f a b = a
on_decimal (Err error.NoNumeral) f a b = b

-- So many units.
unfoldable pub scaled : ℕ → Decimal → Decimal
scaled unit (Ok n) = fitting (unit * n)
scaled unit (Err e) = Err e

-- The number before so many letters, which stand for the unit.
unfoldable pub in_unit : ℕ → ℕ → List ℕ → Decimal
in_unit unit letters word =
    if_less (length word) letters (Err error.NoNumeral) (scaled unit (decimal_of (take (length word - letters) word)))

-- The nanoseconds that a word is: a number, or one behind which the unit stands, `ns`, `us`, `ms` or `s`.
unfoldable pub nanoseconds_of : List ℕ → Decimal
nanoseconds_of word =
    given (get_or word (length word - 1) 0) (λ last.
    if_equal last 115
    (given (get_or word (length word - 2) 0) (λ before_last.
    if_equal before_last 110 (in_unit 1 2 word)
    (if_equal before_last 117 (in_unit 1000 2 word)
    (if_equal before_last 109 (in_unit 1000000 2 word) (in_unit 1000000000 1 word)))))
    (decimal_of word))
