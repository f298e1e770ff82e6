-- Laws by which the choice among the heads meets the definitions: r is what the call gave, x what its contract says of
-- it.
use Rattle.std.specs.Prelude.{ℕ, ◌≡◌, refl, List, Option, None, Result, Ok, Err}
use Rattle.refusal.specs.Answer.{Answer, value, refused, number_of}
use Rattle.refusal.specs.declared.Refusal.{Refusal}
use Rattle.refusal.specs.Cases.{given}
use Rattle.arbitration.specs.declared.CpuWindow.{CpuWindow}
use Rattle.thread.specs.declared.CpuIndex.{CpuIndex}
use Rattle.thread.specs.declared.ThreadRecord.{ThreadRecord}
use Rattle.rows.specs.Table.{Out, out}
use Rattle.lists.specs.Lists.{on_answer, on_out}
use Rattle.demands.specs.declared.Gathered.{Gathered}
use Rattle.renewal.specs.Parts.{SelectionParts}
use Rattle.demands.specs.Demands.{of_current}
use Rattle.selection.specs.Heads.{Heads, no_heads, gather_heads, least_of}
use Rattle.selection.specs.Peek.{Peeked, peeked, chosen}
use Rattle.selection.specs.Steps.{Looked, looked, looked_at}
use Rattle.selection.specs.HeadNumbers.{HeadNumbers}
use Rattle.selection.specs.Answers.{found_answer}
use Rattle.queue.specs.RunQueue.{tree_count}
use Rattle.arbitration.specs.declared.Candidate.{Candidate}

-- By what was gathered.
module _ {B : Type 0} {y : B} {r : Result Gathered Refusal} (l : List ℕ) (g : ℕ → B) (f : HeadNumbers → B) where
  pub heads_found : {v : Gathered} → r ≡ Ok v → y ≡ f (record { numbers = l; found = v })
      → y ≡ on_answer (found_answer r l) g f
  unfolding on_answer
  heads_found m h = rw m h

  pub heads_refused : {n : Refusal} → r ≡ Err n → y ≡ g (number_of n) → y ≡ on_answer (found_answer r l) g f
  unfolding on_answer
  heads_refused m h = rw m h

-- Beside the parts that selection leaves.
abbrev pub beside_parts : SelectionParts → Looked → Peeked SelectionParts
beside_parts p (looked a w) = peeked a w p

-- The second half of selection, on the roots alone and beside the parts.
pub heads_apart : (t : List ThreadRecord) (p : SelectionParts) (c : CpuIndex) (now : ℕ) (w : CpuWindow)
    (current : Option Candidate)
    → on_out (gather_heads tree_count t p.indices c now no_heads (of_current current))
    (λ a t₂. on_answer a (λ n. out (peeked (refused n) w p) t₂) (λ h. chosen t₂ p now w h))
    ≡ on_out (looked_at t p.indices c now w current) (λ x t₂. out (beside_parts p x) t₂)
unfolding looked_at chosen on_out on_answer given
heads_apart t p c now w current = go (gather_heads tree_count t p.indices c now no_heads (of_current current))
  where
    go : (x : Out (Answer Heads))
        → on_out x (λ a t₂. on_answer a (λ n. out (peeked (refused n) w p) t₂) (λ h. chosen t₂ p now w h))
        ≡ on_out (on_out {B = Out Looked} x
        (λ a t₁. on_answer a
        (λ n. out (looked (refused n) w) t₁)
        (λ h. given (least_of tree_count t₁ h.heads now h.found.demand w None)
        (λ least. out (looked (value (record {
          ready = least.ready;
          demand = h.found.demand;
          fair_min_pass = h.found.fair_min_pass;
        })) least.window) t₁))))
        (λ x t₂. out (beside_parts p x) t₂)
    go (out (value h) t₁) = refl
    go (out (refused n) t₁) = refl

pub ruleset peeking = (heads_found, heads_refused)
