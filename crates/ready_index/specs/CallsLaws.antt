-- The laws by which the calls on a tree by itself meet their definitions: x is what the queue's form answers, r what it
-- gave, y what the answer given stands for.
use Rattle.std.specs.Prelude.{ℕ, ◌≡◌, refl, List, Result, Ok, Err, IsErr, IsErrAnd}
use Rattle.std.proofs.Common.{sym, subst, ◌∙◌}
use Rattle.refusal.specs.Answer.{Answer, value, refused, damaged, by_number, or_damaged}
use Rattle.refusal.specs.declared.Refusal.{Refusal}
use Rattle.thread.specs.declared.ThreadRecord.{ThreadRecord}
use Rattle.rows.specs.Table.{Out, out}
use Rattle.rows.specs.Asked.{asked, unchanged, answering}
use Rattle.rows.specs.AskedLaws.{turned_away}
use Rattle.rows.specs.Unmoved.{UnmovedBut}
use Rattle.refusal.specs.declared.Damaged.{Damaged}

-- Where the queue's form refuses, that is Damaged, which may have stored.
pub damaged_stored : {A B : Type 0} {y : Answer A} (b c : B) (r : Result A Damaged) → y ≡ or_damaged r
    → UnmovedBut damaged y b c
unfolding or_damaged
damaged_stored {A} b c (Ok l) e = subst (λ (x : Answer A). UnmovedBut damaged x b c) (sym e) tt
damaged_stored {A} b c (Err _) e = subst (λ (x : Answer A). UnmovedBut damaged x b c) (sym e) (λ h. absurd (h refl))

-- The answer of the queue's form handed on.
pub handed : {A : Type 0} {y : Answer A} (r x : Result A Damaged) → y ≡ or_damaged r → or_damaged r ≡ or_damaged x
    → y ≡ or_damaged x
handed r x h e = h ∙ e

pub handed_out : {A : Type 0} {y : Answer A} {t : List ThreadRecord} (r : Result A Damaged) (x : Out (Result A Damaged))
    → y ≡ or_damaged r → out (or_damaged r) t ≡ answering or_damaged x → out y t ≡ answering or_damaged x
handed_out r x h e = rw h e

-- A refusal of what was asked handed up by `?`: the call's answer is the same refusal.
pub refused_up : {A : Type 0} (t : List ThreadRecord) (id : ℕ) (call : Answer A) {r : Result (Unit {0}) Refusal}
    (q : Result A Refusal) {e : Refusal} → by_number r ≡ asked t id refused (value tt) → r ≡ Err e
    → IsErr q × IsErrAnd q (λ x. x ≡ e) → by_number q ≡ asked t id refused call
refused_up t id call (Ok a) h m k = absurd k.1
refused_up t id call (Err d) h m k = turned_away t id refused call h m (rw k.1)

-- The same beside the table, which is as it was.
pub refused_out : {A : Type 0} (t : List ThreadRecord) (id : ℕ) (call : Out (Answer A)) {r : Result (Unit {0}) Refusal}
    (q : Result A Refusal) {e : Refusal} → by_number r ≡ asked t id refused (value tt) → r ≡ Err e
    → IsErr q × IsErrAnd q (λ x. x ≡ e) → out (by_number q) t ≡ asked t id (unchanged t) call
refused_out t id call (Ok a) h m k = absurd k.1
refused_out t id call (Err d) h m k = turned_away t id (unchanged t) call h m (rw k.1)
