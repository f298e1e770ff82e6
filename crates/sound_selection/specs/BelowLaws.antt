-- What every queued thread asks for: what the current one asks for, what each asks for, and no more.
use Prim.Native.Nat.{ℕ, zero, suc, ◌<◌}
use Rattle.std.specs.Prelude.{◌≡◌, refl, Bool, true, false, List, Option}
use Rattle.std.proofs.Common.{sym, ap, ◌∙◌, subst, arith}
use Rattle.refusal.specs.Cases.{choose}
use Rattle.thread.specs.declared.ThreadRecord.{ThreadRecord}
use Rattle.demands.specs.declared.Gathered.{Gathered}
use Rattle.demands.specs.Demands.{gathered, of_current}
use Rattle.sound_queue.specs.PlaceLaws.{same_or_not}
use Rattle.sound_selection.specs.Claim.{candidate_now, gathered_below}
use Rattle.sound_selection.specs.Within.{Within, alone}
use Rattle.sound_selection.specs.WithinLaws.{within_refl, within_trans, gathered_old, gathered_new, gathered_most}
use Rattle.arbitration.specs.declared.Candidate.{Candidate}

module _ (queued : ℕ → Bool) (t : List ThreadRecord) (now : ℕ) (current : Option Candidate) where
  abbrev below : ℕ → Gathered
  below n = gathered_below n queued t now current

  one_queued : (n : ℕ) → queued n ≡ true
      → gathered_below (suc n) queued t now current ≡ gathered (below n) (candidate_now t now n)
  unfolding gathered_below choose
  one_queued n e = rw e

  one_not : (n : ℕ) → queued n ≡ false → gathered_below (suc n) queued t now current ≡ below n
  unfolding gathered_below choose
  one_not n e = rw e

  by_queued : (n : ℕ) (P : Gathered → Type 0) → (queued n ≡ true → P (gathered (below n) (candidate_now t now n)))
      → (queued n ≡ false → P (below n)) → P (below (suc n))
  by_queued n P f g = go (queued n) refl
    where
      go : (x : Bool) → queued n ≡ x → P (gathered_below (suc n) queued t now current)
      go true e = subst P (sym (one_queued n e)) (f e)
      go false e = subst P (sym (one_not n e)) (g e)

  wider : (n : ℕ) → Within (below n) (below (suc n))
  wider n =
      by_queued n (Within (below n)) (λ e. gathered_old (below n) (candidate_now t now n)) (λ e. within_refl (below n))

  pub below_current : (n : ℕ) → Within (of_current current) (gathered_below n queued t now current)
  unfolding gathered_below
  below_current zero = within_refl (of_current current)
  below_current (suc n) = within_trans (below_current n) (wider n)

  here : (n : ℕ) → queued n ≡ true → Within (alone (candidate_now t now n)) (below (suc n))
  here n e =
      subst (Within (alone (candidate_now t now n))) (sym (one_queued n e))
      (gathered_new (below n) (candidate_now t now n))

  pub below_each : (n j : ℕ) → j < n → queued j ≡ true
      → Within (alone (candidate_now t now j)) (gathered_below n queued t now current)
  below_each zero j l e = absurd (omega arith)
  below_each (suc n) j l e = same_or_not j n
      (λ z. subst (λ m. Within (alone (candidate_now t now m)) (below (suc n))) (sym z)
      (here n (ap queued (sym z) ∙ e)))
      (λ z. within_trans (below_each n j (omega arith) e) (wider n))

  pub below_most : (n : ℕ) (z : Gathered) → Within (of_current current) z
      → ((j : ℕ) → j < n → queued j ≡ true → Within (alone (candidate_now t now j)) z)
      → Within (gathered_below n queued t now current) z
  unfolding gathered_below
  below_most zero z p f = p
  below_most (suc n) z p f =
      let q = below_most n z p (λ j l e. f j (omega arith) e) in
      by_queued n (λ g. Within g z) (λ e. gathered_most (below n) (candidate_now t now n) z q (f n (omega arith) e))
      (λ e. q)
