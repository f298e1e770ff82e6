-- What `?` hands up: the refusal that was answered, or Damaged where a table was found damaged.
use Rattle.std.specs.Prelude.{◌≡◌, Result, Ok, Err, IsErr, IsErrAnd}
use Rattle.std.proofs.Common.{ap}
use Rattle.refusal.specs.declared.Refusal.{Refusal}
use Rattle.refusal.specs.declared.Refusal.TheVariants as refusal
use Rattle.refusal.specs.Answer.{Answer, refused, number_of, damaged, by_number}

pub handed_up : {A : Type 0} (q : Result A Refusal) (e : Refusal) → IsErr q × IsErrAnd q (λ r. r ≡ e)
    → by_number q ≡ refused (number_of e)
handed_up (Ok a) e h = absurd h.1
handed_up (Err d) e h = ap (λ (r : Refusal). refused (number_of r)) h.1

pub damage_up : {A : Type 0} (q : Result A Refusal) → IsErr q × IsErrAnd q (λ r. r ≡ refusal.Damaged)
    → by_number q ≡ refused damaged
damage_up q h = handed_up q refusal.Damaged h
