-- What a step of selection leaves: an answer, with the parts it worked on. The table stands beside it (`Out`).
use Rattle.std.specs.Prelude.{ℕ}
use Rattle.refusal.specs.Answer.{Answer, value, refused}

pub data Leaves (A B : Type 0) : Type 0 where
  leaves : Answer A → B → Leaves A B

-- By the number of its refusal, or by its value; the parts are as they were left.
unfoldable pub on_leaves : {A B C : Type 0} → Leaves A B → (ℕ → B → C) → (A → B → C) → C
on_leaves (leaves (value a) b) g f = f a b
on_leaves (leaves (refused n) b) g f = g n b
