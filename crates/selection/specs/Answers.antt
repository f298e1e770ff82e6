-- What each answer of the crate stands for: document 01's number, or its values.
use Rattle.std.specs.Prelude.{ℕ, List, Result, Ok, Err}
use Rattle.refusal.specs.Answer.{Answer, value, refused, number_of, by_number}
use Rattle.selection.specs.declared.Selection.{Selection}
use Rattle.selection.specs.declared.WindowPeek.{WindowPeek}
use Rattle.selection.specs.HeadNumbers.{HeadNumbers}
use Rattle.selection.specs.Steps.{Looked, looked}
use Rattle.demands.specs.declared.Gathered.{Gathered}
use Rattle.refusal.specs.declared.Refusal.{Refusal}

-- What was found, beside the numbers of the heads.
abbrev pub found_answer : Result Gathered Refusal → List ℕ → Answer HeadNumbers
found_answer (Ok g) l = value (record { numbers = l; found = g })
found_answer (Err n) l = refused (number_of n)

abbrev pub looked_of : WindowPeek → Looked
looked_of s = looked (by_number s.answer) s.window
