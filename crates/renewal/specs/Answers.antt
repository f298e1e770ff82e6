-- What each answer of the crate stands for: document 01's number, or its values.
use Rattle.std.specs.Prelude.{ℕ, Option, Result, Ok, Err}
use Rattle.refusal.specs.Answer.{Answer, value, refused, number_of, damaged}
use Rattle.renewal.specs.declared.BudgetTrees.{BudgetTrees}
use Rattle.renewal.specs.declared.Moved.{Moved}
use Rattle.renewal.specs.declared.Moved.TheVariants as move
use Rattle.renewal.specs.declared.NextMove.{NextMove}
use Rattle.renewal.specs.declared.NextMove.TheVariants as next
use Rattle.renewal.specs.Leaves.{Leaves, leaves}
use Rattle.renewal.specs.Steps.{Next, emptied, moved, stopped}
use Rattle.refusal.specs.declared.Refusal.{Refusal}
use Rattle.refusal.specs.declared.Damaged.{Damaged}

abbrev pub move_answer : Moved → Leaves (Unit {0}) BudgetTrees
move_answer (move.Done trees) = leaves (value tt) trees
move_answer (move.Refused n trees) = leaves (refused (number_of n)) trees

abbrev pub next_answer : NextMove → Next
next_answer next.Emptied = emptied
next_answer (next.Moved trees) = moved trees
next_answer (next.Refused n trees) = stopped (number_of n) trees
