-- Laws by which the functions meet the definitions: r is what the call gave, x what its contract says of it.
use Rattle.std.specs.Prelude.{ℕ, ◌+◌, ◌-◌, ◌≡◌, Bool, true, false, List, eqb, Result, Ok, Err}
use Rattle.std.proofs.Common.{sym, ap, subst}
use Rattle.refusal.specs.Answer.{Answer, number_of, by_number}
use Rattle.refusal.specs.Cases.{choose, if_equal}
use Rattle.refusal.specs.declared.Refusal.{Refusal}
use Rattle.thread.specs.declared.ThreadQueue.{ThreadQueue}
use Rattle.thread.specs.declared.ThreadRecord.{ThreadRecord}
use Rattle.rows.specs.Table.{Out, out}
use Rattle.rows.specs.Unmoved.{Unmoved}
use Rattle.lists.specs.Checks.{max_length}
use Rattle.lists.specs.Lists.{on_answer}
use Rattle.lists.specs.ListsLaws.{went_out}
use Rattle.queue_work.specs.declared.Parts.{Parts}
use Rattle.queue_work.specs.Work.{Work, done, turned_down, halts, Untouched, Stores}
use Rattle.queue_work.specs.Work.{with_budget_threads, counted_in, counted_out}

module _ {B : Type 0} {y : B} {r : Result ℕ Refusal} {x : Answer ℕ} (g f : ℕ → B) where
  pub total_length : {n : ℕ} → by_number r ≡ x → r ≡ Ok n → y ≡ f n → y ≡ on_answer x g f
  unfolding on_answer
  total_length e m h = rw (sym e, m) h

  pub total_refused : {n : Refusal} → by_number r ≡ x → r ≡ Err n → y ≡ g (number_of n)
      → y ≡ on_answer x g f
  unfolding on_answer
  total_refused e m h = rw (sym e, m) h

-- What a list's call answered.
module _ {B : Type 0} {y : B} {r : Result ThreadQueue Refusal} (g : ℕ → B) (f : ThreadQueue → B) where
  pub list_made : {q : ThreadQueue} → r ≡ Ok q → y ≡ f q → y ≡ on_answer (by_number r) g f
  unfolding on_answer
  list_made m h = rw m h

  pub list_refused : {n : Refusal} → r ≡ Err n → y ≡ g (number_of n) → y ≡ on_answer (by_number r) g f
  unfolding on_answer
  list_refused m h = rw m h

-- An answer that stands beside the table that a call left.
pub beside : {A : Type 0} {a b : A} (t : List ThreadRecord) → a ≡ b → out a t ≡ out b t
beside t e = ap (λ a. out a t) e

-- Counting stores.
pub counted_in_stores : {w : Work} (budgeted : Bool) (p : Parts) → w ≡ counted_in budgeted p → Stores w
unfolding counted_in choose if_equal
counted_in_stores {w} budgeted p e = subst Stores (sym e) (go budgeted (eqb p.budget_threads max_length))
  where
    go : (x y : Bool) → Stores (choose x (choose y (halts p) (done (with_budget_threads p (p.budget_threads + 1))))
        (done p))
    go true true = tt
    go true false = tt
    go false y = tt

pub counted_out_stores : {w : Work} (budgeted : Bool) (p : Parts) → w ≡ counted_out budgeted p → Stores w
unfolding counted_out choose if_equal
counted_out_stores {w} budgeted p e = subst Stores (sym e) (go budgeted (eqb p.budget_threads 0))
  where
    go : (x y : Bool) → Stores (choose x (choose y (halts p) (done (with_budget_threads p (p.budget_threads - 1))))
        (done p))
    go true true = tt
    go true false = tt
    go false y = tt

-- What stores is no refusal; what a list refused is as it was.
pub stored_anyway : {B : Type 0} (b c : B) (w : Work) → Stores w → Untouched w b c
stored_anyway b c (done p) h = tt
stored_anyway b c (turned_down n) h = absurd h
stored_anyway b c (halts p) h = tt

pub list_unmoved : {B : Type 0} {b c : B} {r : Result ThreadQueue Refusal} {n : Refusal} → r ≡ Err n
    → Unmoved (by_number r) b c
    → c ≡ b
list_unmoved {B} {b} {c} e u = subst (λ (x : Result ThreadQueue Refusal). Unmoved (by_number x) b c) e u

pub ruleset works = (went_out, total_length, total_refused, list_made, list_refused, beside)

pub ruleset storing = (counted_in_stores, counted_out_stores, stored_anyway, list_unmoved)
