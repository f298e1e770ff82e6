-- Forms, lines and times as they are written, on which the definitions are judged.
use Prim.Native.String.{String}
use Rattle.std.specs.Prelude.{◌≡◌, refl, [], ◌∷◌, None, Some, Ok, Err}
use Rattle.refusal.specs.Cases.{choose, if_less, if_equal, given}
use Rattle.text.specs.Ascii.{ascii}
use Rattle.text.specs.Reading.{before, run, same_bytes, most, state_after}
use Rattle.text.specs.Reading.{with_byte, denoted, fitting}
use Rattle.text.specs.Reading.{on_decimal, decimal_of, scaled, in_unit, nanoseconds_of}
use Rattle.text.specs.Lists.{names_of, joined, place_in}
use Rattle.text.specs.declared.reading.NumberError.TheVariants as error
use Rattle.text.specs.declared.forms.Cause.TheVariants as cause
use Rattle.text.specs.Forms.{Fitted, fitted, next_word, behind_word, limit_of, limited, name_of, known_of, is_name}
use Rattle.text.specs.Forms.{new_name, letter_of, one_of, quantity_of, value_of, asked_of, end_of, taken, step_by}
use Rattle.text.specs.Forms.{on_step, last_of, fit_from}

-- With two names of up to three, and room for seven values.
abbrev reads : String → String → Fitted
reads form line =
    fit_from (ascii "a bee") 2 3 (names_of 32 (ascii form)) (ascii line) 0 (9 ∷ 9 ∷ 9 ∷ 9 ∷ 9 ∷ 9 ∷ 9 ∷ [])

-- Each kind of word in one line; the rest left out; a name by its number, and a time.
pub forms_judged :
    reads "add name:= size:#99 ^ fair|turn .. to:@" " add  cat 30 X turn bee "
    ∷ reads "add name:= size:#99 ^ fair|turn .. to:@" "add cat 30 X fair"
    ∷ reads "@ for:~" "#7 1_500us"
    ∷ []
    ≡ fitted None 7 1 (0 ∷ 0 ∷ 30 ∷ 88 ∷ 1 ∷ 1 ∷ 1 ∷ [])
    ∷ fitted None 5 0 (0 ∷ 0 ∷ 30 ∷ 88 ∷ 0 ∷ 9 ∷ 9 ∷ [])
    ∷ fitted None 2 0 (7 ∷ 1500000 ∷ 9 ∷ 9 ∷ 9 ∷ 9 ∷ 9 ∷ [])
    ∷ []
unfolding fit_from on_step step_by taken end_of last_of asked_of on_decimal value_of quantity_of limit_of limited one_of
    letter_of new_name is_name known_of name_of next_word behind_word names_of joined place_in before run same_bytes
    decimal_of state_after denoted with_byte fitting nanoseconds_of in_unit
    scaled choose if_less if_equal given
forms_judged = refl

-- A word too few, one too many, and one that is none of the form's; a name that is taken, none of those that there are,
-- and what is no name; what is no number, no time and no letter; a number above its limit, and a time above the
-- greatest.
pub mistakes_judged :
    reads "add name:=" "add"
    ∷ reads "add name:=" "add cat cat"
    ∷ reads "fair|turn #" "tur 1"
    ∷ reads "add name:=" "add bee"
    ∷ reads "by:@" "cat"
    ∷ reads "add name:=" "add 12"
    ∷ reads "size:#" "1x"
    ∷ reads "for:~" "1h"
    ∷ reads "hook ^" "hook AB"
    ∷ reads "add size:#99 #" "add 100 1"
    ∷ reads "for:~" "18446744074s"
    ∷ []
    ≡ fitted (Some cause.Missing) 1 0 (0 ∷ 9 ∷ 9 ∷ 9 ∷ 9 ∷ 9 ∷ 9 ∷ [])
    ∷ fitted (Some cause.TooMany) 2 4 (0 ∷ 0 ∷ 9 ∷ 9 ∷ 9 ∷ 9 ∷ 9 ∷ [])
    ∷ fitted (Some cause.OtherWord) 0 5 (9 ∷ 9 ∷ 9 ∷ 9 ∷ 9 ∷ 9 ∷ 9 ∷ [])
    ∷ fitted (Some cause.NameTaken) 1 4 (0 ∷ 9 ∷ 9 ∷ 9 ∷ 9 ∷ 9 ∷ 9 ∷ [])
    ∷ fitted (Some cause.NoSuchName) 0 3 (9 ∷ 9 ∷ 9 ∷ 9 ∷ 9 ∷ 9 ∷ 9 ∷ [])
    ∷ fitted (Some cause.NoName) 1 3 (0 ∷ 9 ∷ 9 ∷ 9 ∷ 9 ∷ 9 ∷ 9 ∷ [])
    ∷ fitted (Some cause.NoNumber) 0 2 (9 ∷ 9 ∷ 9 ∷ 9 ∷ 9 ∷ 9 ∷ 9 ∷ [])
    ∷ fitted (Some cause.NoTime) 0 2 (9 ∷ 9 ∷ 9 ∷ 9 ∷ 9 ∷ 9 ∷ 9 ∷ [])
    ∷ fitted (Some cause.NoLetter) 1 3 (0 ∷ 9 ∷ 9 ∷ 9 ∷ 9 ∷ 9 ∷ 9 ∷ [])
    ∷ fitted (Some cause.AboveLimit) 1 6 (0 ∷ 9 ∷ 9 ∷ 9 ∷ 9 ∷ 9 ∷ 9 ∷ [])
    ∷ fitted (Some cause.AboveLimit) 0 12 (9 ∷ 9 ∷ 9 ∷ 9 ∷ 9 ∷ 9 ∷ 9 ∷ [])
    ∷ []
unfolding fit_from on_step step_by taken end_of last_of asked_of on_decimal value_of quantity_of limit_of limited one_of
    letter_of new_name is_name known_of name_of next_word behind_word names_of joined place_in before run same_bytes
    decimal_of state_after denoted with_byte fitting nanoseconds_of in_unit
    scaled choose if_less if_equal given
mistakes_judged = refl

-- Times with each unit and without, at the greatest and above it; then what is no time.
pub times_judged :
    nanoseconds_of (ascii "7_000_000")
    ∷ nanoseconds_of (ascii "40ns")
    ∷ nanoseconds_of (ascii "500us")
    ∷ nanoseconds_of (ascii "7ms")
    ∷ nanoseconds_of (ascii "2s")
    ∷ nanoseconds_of (ascii "18446744073709551615ns")
    ∷ nanoseconds_of (ascii "18446744073709551616")
    ∷ nanoseconds_of (ascii "18446744073710ms")
    ∷ nanoseconds_of (ascii "ms")
    ∷ nanoseconds_of (ascii "s")
    ∷ nanoseconds_of (ascii "")
    ∷ nanoseconds_of (ascii "1__0")
    ∷ nanoseconds_of (ascii "_1")
    ∷ nanoseconds_of (ascii "1_")
    ∷ nanoseconds_of (ascii "1.5ms")
    ∷ []
    ≡ Ok 7000000
    ∷ Ok 40
    ∷ Ok 500000
    ∷ Ok 7000000
    ∷ Ok 2000000000
    ∷ Ok most
    ∷ Err error.Above
    ∷ Err error.Above
    ∷ Err error.NoNumeral
    ∷ Err error.NoNumeral
    ∷ Err error.NoNumeral
    ∷ Err error.NoNumeral
    ∷ Err error.NoNumeral
    ∷ Err error.NoNumeral
    ∷ Err error.NoNumeral
    ∷ []
unfolding nanoseconds_of in_unit scaled on_decimal decimal_of state_after denoted
    with_byte fitting choose if_less if_equal given
times_judged = refl
