-- The text that a name is, and the line that tells what failed and why.
use Rattle.std.specs.Prelude.{ℕ, ◌-◌, List, [], ◌∷◌, ◌++◌, length, take, Option, None, Some}
use Rattle.std.specs.Str.{is_utf8}
use Rattle.refusal.specs.Cases.{choose, if_less, if_equal, given}
use Rattle.text.specs.Reading.{before}

-- The text that a name is, which has its bytes; none where they are not UTF-8.
unfoldable pub text_of : List ℕ → Option (List ℕ)
text_of name = choose (is_utf8 name) (Some name) None

-- How many bytes at the front of an error's text are its reason: behind it stand a blank and the error's number in
-- brackets, or, in the text of an error that has no number, zeros.
unfoldable pub reason_end : List ℕ → ℕ
reason_end text =
    given (before 40 text) (λ bracket.
    if_equal bracket 0 (before 0 text)
    (if_less bracket (length text) (bracket - 1) (before 0 text)))

-- The reason in an error's text.
abbrev pub reason : List ℕ → List ℕ
reason text = take (reason_end text) text

-- The line that tells it: what failed, a colon and a blank, the reason, and the line's end.
abbrev pub line : List ℕ → List ℕ → List ℕ
line what text = what ++ (58 ∷ 32 ∷ []) ++ reason text ++ (10 ∷ [])
