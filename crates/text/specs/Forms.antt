-- Reading a line by a form: what its words stand for, the value of each, and where and why a line goes no further.
use Rattle.std.specs.Prelude.{ℕ, ◌+◌, Bool, true, false, List, [], ◌∷◌, eqb, length, take, drop, get_or, set}
use Rattle.std.specs.Prelude.{Option, None, Some, Result, Ok, Err}
use Rattle.std.specs.Result.{result_unwrap_or}
use Rattle.refusal.specs.Cases.{choose, if_less, if_equal, given}
use Rattle.text.specs.Reading.{before, run, same_bytes, most, Decimal, on_decimal, decimal_of, nanoseconds_of}
use Rattle.text.specs.Lists.{names_of, place_in}
use Rattle.text.specs.declared.forms.Cause.{Cause}
use Rattle.text.specs.declared.forms.Cause.TheVariants as cause

-- Why a line goes no further, if it does not go to its end; the place of the form's word, how much of the line is left,
-- and the values.
pub data Fitted : Type 0 where
  fitted : Option Cause → ℕ → ℕ → List ℕ → Fitted

abbrev pub is_empty : List ℕ → Bool
is_empty word = eqb (length word) 0

-- The first byte; 0 where there is none.
abbrev pub first : List ℕ → ℕ
first word = get_or word 0 0

-- The next word of a line, which is empty where there is none, and the line behind it.
unfoldable pub next_word : List ℕ → List ℕ
next_word line = given (drop (run 32 line) line) (λ l. take (before 32 l) l)

unfoldable pub behind_word : List ℕ → List ℕ
behind_word line = given (drop (run 32 line) line) (λ l. drop (before 32 l) l)

-- The limit behind the mark of a form's word; the greatest number where there is none.
unfoldable pub limit_of : List ℕ → ℕ
limit_of form = result_unwrap_or (decimal_of (drop 1 form)) most

-- A number up to a limit; what is none is told by its cause.
unfoldable pub limited : ℕ → Cause → Decimal → Result ℕ Cause
limited limit none d =
    on_decimal d (λ n. if_less limit n (Err cause.AboveLimit) (Ok n)) (Err cause.AboveLimit)
    (Err none)

-- The place of a name among the first so many. (Where there are fewer names than that, a word that is none of them has
-- the place behind the last: a caller counts no more names than it lends.)
unfoldable pub name_of : List ℕ → ℕ → List ℕ → Result ℕ Cause
name_of names count word =
    given (place_in word (names_of 32 names)) (λ n. if_less n count (Ok n) (Err cause.NoSuchName))

-- The place of a name that is said by its number, behind a `#`, or by itself.
unfoldable pub known_of : List ℕ → ℕ → List ℕ → Result ℕ Cause
known_of names count word =
    given (first word) (λ mark.
    if_equal mark 35 (limited most cause.NoSuchName (decimal_of (drop 1 word))) (name_of names count word))

-- What may be a name: up to 15 bytes that are neither a number nor one behind a `#`.
unfoldable pub is_name : List ℕ → Bool
is_name word =
    if_less 15 (length word) false
    (given (first word) (λ mark. if_equal mark 35 false (on_decimal (decimal_of word) (λ n. false) false true)))

-- A name that is not there yet, where there is room for one more.
unfoldable pub new_name : List ℕ → ℕ → ℕ → List ℕ → Result ℕ Cause
new_name names count room word =
    if_less count room
    (choose (is_name word)
    (given (place_in word (names_of 32 names)) (λ n. if_less n count (Err cause.NameTaken) (Ok 0)))
    (Err cause.NoName))
    (Err cause.NoRoom)

-- One letter from `A` to `Z`.
unfoldable pub letter_of : List ℕ → Result ℕ Cause
letter_of word =
    if_equal (length word) 1
    (given (first word) (λ b.
    if_less b 65 (Err cause.NoLetter) (if_less 90 b (Err cause.NoLetter) (Ok b))))
    (Err cause.NoLetter)

-- The place of a word among those that stand apart by a `|`.
unfoldable pub one_of : List ℕ → List ℕ → Result ℕ Cause
one_of list word =
    given (place_in word (names_of 124 list))
    (λ n. choose (same_bytes (get_or (names_of 124 list) n []) word) (Ok n) (Err cause.OtherWord))

-- A time, by the mark `~`, or a number, up to the form's limit.
unfoldable pub quantity_of : ℕ → List ℕ → List ℕ → Result ℕ Cause
quantity_of mark form word =
    given (limit_of form) (λ limit.
    if_equal mark 126 (limited limit cause.NoTime (nanoseconds_of word))
    (limited limit cause.NoNumber (decimal_of word)))

-- What a word is by what a form asks for, by the mark of that: `#`, `~`, `@`, `=`, `^` or none.
unfoldable pub value_of : List ℕ → ℕ → ℕ → List ℕ → List ℕ → Result ℕ Cause
value_of names count room form word =
    given (first form) (λ mark.
    if_equal mark 35 (quantity_of mark form word)
    (if_equal mark 126 (quantity_of mark form word)
    (if_equal mark 64 (known_of names count word)
    (if_equal mark 61 (new_name names count room word)
    (if_equal mark 94 (letter_of word) (one_of form word))))))

-- What a word of a form asks for: what stands behind its first colon, or all of it.
unfoldable pub asked_of : List ℕ → List ℕ
asked_of form = given (before 58 form) (λ n. if_less n (length form) (drop (n + 1) form) form)

-- Whether it is the word `..`, behind which the form may be left out.
abbrev pub is_rest : List ℕ → Bool
is_rest form = same_bytes form (46 ∷ 46 ∷ [])

-- Of a line that ends before the form does, by whether the rest may be left out.
unfoldable pub end_of : Bool → Option Cause
end_of rest = choose rest None (Some cause.Missing)

-- What the next word of a line does by a word of a form: it is taken, with a value; it is the first of the rest, which
-- might have been left out; or the line goes no further, for a cause or since it may end there.
abbrev pub Step : Type 0
Step = Result (Option ℕ) (Option Cause)

-- A word that is taken, where it is what the form asks for.
unfoldable pub taken : Result ℕ Cause → Step
taken (Ok n) = Ok (Some n)
taken (Err c) = Err (Some c)

unfoldable pub step_by : List ℕ → ℕ → ℕ → List ℕ → List ℕ → Step
step_by names count room form word =
    choose (is_empty word) (Err (end_of (is_rest form)))
    (choose (is_rest form) (Ok None) (taken (value_of names count room (asked_of form) word)))

unfoldable pub on_step : {A : Type 0} → Step → (ℕ → A) → A → (Option Cause → A) → A
on_step (Ok (Some n)) f a g = f n
on_step (Ok None) f a g = a
on_step (Err c) f a g = g c

-- Of a form that ends, by the next word of the line.
unfoldable pub last_of : List ℕ → Option Cause
last_of word = choose (is_empty word) None (Some cause.TooMany)

-- The words of a form from the k-th on, on what is left of a line: each gives the k-th value. A value behind the last
-- is left out.
unfoldable pub fit_from : List ℕ → ℕ → ℕ → List (List ℕ) → List ℕ → ℕ → List ℕ → Fitted
fit_from names count room [] line k values = fitted (last_of (next_word line)) k (length line) values
fit_from names count room (form ∷ forms) line k values =
    on_step (step_by names count room form (next_word line))
    (λ n. fit_from names count room forms (behind_word line) (k + 1) (set values k n))
    (fit_from names count room forms line (k + 1) (set values k 1))
    (λ c. fitted c k (length line) values)
