-- Laws by which a refused call leaves every word, from what the call below says of its answer to the number.
use Rattle.std.specs.Prelude.{ℕ, ◌≡◌, refl, Bool, false, ◌≢◌, List, Option, Result, Err}
use Rattle.std.proofs.Common.{sym, ◌∙◌, subst}
use Rattle.refusal.specs.declared.Refusal.{Refusal}
use Rattle.refusal.specs.Answer.{Answer, value, refused, queue_halted, by_number}
use Rattle.arbitration.specs.declared.CpuWindow.{CpuWindow}
use Rattle.rows.specs.Unmoved.{Unmoved, Spared}
use Rattle.queue.specs.RunQueue.{CpuRunQueue}
use Rattle.lent_selection.specs.Early.{Early}
use Rattle.board.specs.Board.{numbered, Stays, Spares}

-- Accepted, nothing is claimed.
pub accepted_keeps : {B : Type 0} (b c : B) → Stays 0 b c
accepted_keeps b c h = absurd (h refl)

pub answer_keeps : {A B : Type 0} (b c : B) (a : Answer A) {n : ℕ} → n ≡ numbered a → Unmoved a b c → Stays n b c
answer_keeps b c (value x) e u = λ h. absurd (h e)
answer_keeps b c (refused m) e u = λ h. u

pub answer_spares : {A B : Type 0} (b c : B) (a : Answer A) {n : ℕ} → n ≡ numbered a → Spared a b c → Spares n b c
answer_spares b c (value x) e u = λ h k. absurd (h e)
answer_spares b c (refused m) e u = λ h k. u (λ z. k (e ∙ z))

pub verdict_keeps : {B : Type 0} {b c : B} {v : Result (Unit {0}) Refusal} {n : Refusal} → v ≡ Err n
    → Unmoved (by_number v) b c → c ≡ b
verdict_keeps {B} {b} {c} e u = subst (λ (x : Result (Unit {0}) Refusal). Unmoved (by_number x) b c) e u

pub deadline_keeps : {B : Type 0} {b c : B} {v : Result (Option ℕ) Refusal} {n : Refusal} → v ≡ Err n
    → Unmoved (by_number v) b c → c ≡ b
deadline_keeps {B} {b} {c} e u = subst (λ (x : Result (Option ℕ) Refusal). Unmoved (by_number x) b c) e u

-- A flag's word stands for the flag.
pub flag_keeps : {B : Type 0} {b c : B} {x y : Bool} → (x ≡ false → c ≡ b) → x ≡ y → y ≡ false → c ≡ b
flag_keeps h e f = h (e ∙ f)

-- So do a window's words for the window.
pub early_keeps : {B : Type 0} {b c : B} {t : List (List ℕ)} {q : CpuRunQueue} {u w : CpuWindow}
    → (Early t u q → c ≡ b) → u ≡ w → Early t w q → c ≡ b
early_keeps {B} {b} {c} {t} {q} h e f = h (subst (λ (x : CpuWindow). Early t x q) (sym e) f)

pub ruleset keeping = (accepted_keeps, answer_keeps, answer_spares, verdict_keeps, deadline_keeps)
