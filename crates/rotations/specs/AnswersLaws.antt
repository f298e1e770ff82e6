-- An answer is told by its number or its value, and what is told alike is alike.
use Rattle.std.specs.Prelude.{◌≡◌, List, Result, Ok, Err, ℕ}
use Rattle.refusal.specs.Answer.{or_damaged}
use Rattle.std.proofs.Common.{ap}
use Rattle.refusal.specs.Cases.{never}
use Rattle.thread.specs.declared.ThreadRecord.{ThreadRecord}
use Rattle.rows.specs.Table.{Out, out}
use Rattle.rows.specs.Asked.{answering}
use Rattle.refusal.specs.declared.Damaged.{Damaged}

-- An answer told beside the table that it left: x is what the definition gives.
pub turn_told : {r : Result ℕ Damaged} {t : List ThreadRecord} {x : Out (Result ℕ Damaged)} → out r t ≡ x
    → out (or_damaged r) t ≡ answering or_damaged x
unfolding answering
turn_told e = ap (answering or_damaged) e

-- What is told alike is alike.
pub same_turn : (r : Result ℕ Damaged) (t : List ThreadRecord) (x : Out (Result ℕ Damaged))
    → out (or_damaged r) t ≡ answering or_damaged x → out r t ≡ x
unfolding answering or_damaged
same_turn (Ok i) t (out (Ok j) s) e =
    let k : i ≡ j = cc in
    let l : t ≡ s = cc in
    rw (k, l)
same_turn (Ok i) t (out (Err _) s) e = never cc
same_turn (Err _) t (out (Ok j) s) e = never cc
same_turn (Err _) t (out (Err _) s) e = let l : t ≡ s = cc in rw l
