-- An answer is told by its number or its values, and what is told alike is alike.
use Rattle.std.specs.Prelude.{◌≡◌, refl, List, Result, Ok, Err}
use Rattle.refusal.specs.Answer.{or_damaged, damage}
use Rattle.std.proofs.Common.{ap}
use Rattle.refusal.specs.Cases.{never}
use Rattle.thread.specs.declared.ThreadRecord.{ThreadRecord}
use Rattle.rows.specs.Table.{Out, out}
use Rattle.rows.specs.Asked.{answering}
use Rattle.thread.specs.declared.Links.{Links}
use Rattle.refusal.specs.declared.Damaged.{Damaged}

-- An answer told beside the table that a store left: x is what the definition gives.
pub change_told : {r : Result (Unit {0}) Damaged} {t : List ThreadRecord} {x : Out (Result (Unit {0}) Damaged)}
    → out r t ≡ x → out (or_damaged r) t ≡ answering or_damaged x
unfolding answering
change_told e = ap (answering or_damaged) e

-- What is told alike is alike.
pub same_told : {A : Type 0} (r x : Result A Damaged) → or_damaged r ≡ or_damaged x → r ≡ x
unfolding or_damaged
same_told (Ok l) (Ok m) e = let k : l ≡ m = cc in ap Ok k
same_told (Ok l) (Err _) e = never cc
same_told (Err _) (Ok m) e = never cc
same_told (Err _) (Err _) e = refl

pub same_links : (r x : Result Links Damaged) → or_damaged r ≡ or_damaged x → r ≡ x
same_links = same_told

pub same_change : (r : Result (Unit {0}) Damaged) (t : List ThreadRecord) (x : Out (Result (Unit {0}) Damaged))
    → out (or_damaged r) t ≡ answering or_damaged x → out r t ≡ x
unfolding answering or_damaged
same_change (Ok _) t (out (Ok _) s) e = let k : t ≡ s = cc in ap (out (Ok tt)) k
same_change (Ok _) t (out (Err _) s) e = never cc
same_change (Err _) t (out (Ok _) s) e = never cc
same_change (Err _) t (out (Err _) s) e = let k : t ≡ s = cc in ap (out (Err damage)) k
