-- What each answer of the crate stands for: document 01's number, or its values.
use Rattle.std.specs.Prelude.{Bool, Result, Ok, Err}
use Rattle.refusal.specs.Answer.{Answer, value, refused, number_of, by_number}
use Rattle.runtime.specs.declared.Prepared.{Prepared}
use Rattle.runtime.specs.Prepare.{Counted, counted}
use Rattle.refusal.specs.declared.Refusal.{Refusal}

-- The verdict, and the counters.
abbrev pub prepared_answer : Prepared → Counted
prepared_answer p = counted (by_number p.answer) p.turns
