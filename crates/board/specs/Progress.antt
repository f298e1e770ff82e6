-- What selection leaves of a window: at a refusal all of it, else its configuration, so that storing the epoch and what
-- remains of allowance and floor stores the whole window.
use Prim.Native.Nat.{ℕ, zero, suc, ◌-◌, ◌/◌}
use Rattle.std.specs.Prelude.{◌≡◌, Bool, List, ltb, length, get_or, Option, Some, None}
use Rattle.std.proofs.Math.Path.{refl, sym, ap}
use Rattle.std.proofs.Common.{subst, ◌∙◌}
use Rattle.std.proofs.Math.Bool.{true, false}
use Rattle.refusal.specs.Answer.{Answer, value, refused, bad_config, queue_halted, bad_table}
use Rattle.refusal.specs.Cases.{choose, given, if_less}
use Rattle.window_config.specs.declared.ArbitrationConfig.{ArbitrationConfig}
use Rattle.arbitration.specs.declared.CpuWindow.{CpuWindow}
use Rattle.arbitration.specs.declared.Demand.{Demand}
use Rattle.window_config.specs.Config.{sound_config}
use Rattle.arbitration.specs.Window.{refreshed}
use Rattle.arbitration.specs.ArbitrationLaws.{refreshed_config}
use Rattle.thread.specs.declared.CpuIndex.{CpuIndex}
use Rattle.thread.specs.declared.ThreadRecord.{ThreadRecord}
use Rattle.thread.specs.Membership.{on_link}
use Rattle.rows.specs.Table.{Out, out}
use Rattle.lists.specs.Lists.{on_answer, on_out}
use Rattle.queue.specs.RunQueue.{CpuRunQueue, tree_count, last_tree}
use Rattle.queue.specs.Queue.{max_records}
use Rattle.demands.specs.Demands.{of_current}
use Rattle.renewal.specs.Parts.{SelectionParts}
use Rattle.renewal.specs.Leaves.{Leaves, leaves, on_leaves}
use Rattle.renewal.specs.Renewal.{renew}
use Rattle.selection.specs.declared.Selection.{Selection}
use Rattle.selection.specs.Heads.{Heads, no_heads, gather_heads, ready_with, Chosen, least_of}
use Rattle.selection.specs.Peek.{Peeked, peeked, chosen, peek_running, peek_parts, selection_parts, restored, peek_next}
use Rattle.window_words.specs.WindowWords.{progressed}
use Rattle.arbitration.specs.declared.Candidate.{Candidate}
use Rattle.selection.specs.declared.ReadyThread.{ReadyThread}

module _ (t : List ThreadRecord) (heads : List (Option ℕ)) (now : ℕ) (d : Demand) where
  abbrev Least-keeps : ℕ → Type 0
  Least-keeps n = (w : CpuWindow) (best : Option ReadyThread)
      → (least_of n t heads now d w best).window.config ≡ w.config

  next_keeps : (n : ℕ) → Least-keeps n → Least-keeps (suc n)
  unfolding least_of given on_link
  next_keeps n rest w best = go (get_or heads (last_tree - n) None)
    where
      go : (x : Option ℕ) → (on_link {A = Chosen} x (least_of n t heads now d w best)
          (λ id. least_of n t heads now d (refreshed w now)
          (ready_with t id (refreshed w now) now d best))).window.config ≡ w.config
      go None = rest w best
      go (Some id) = rest (refreshed w now) (ready_with t id (refreshed w now) now d best) ∙ refreshed_config w now

  least_keeps : (n : ℕ) → Least-keeps n
  unfolding least_of
  least_keeps zero w best = refl
  least_keeps (suc n) w best = next_keeps n (least_keeps n) w best

Keeps : {B : Type 0} → CpuWindow → Out (Peeked B) → Type 0
Keeps w (out (peeked (value a) w₁ b) t) = w₁.config ≡ w.config
Keeps w (out (peeked (refused n) w₁ b) t) = w₁ ≡ w

-- The window as the entry leaves it: stored where there is a selection.
abbrev pub window_left : CpuWindow → CpuWindow → Answer Selection → CpuWindow
window_left before fresh (value s) =
    progressed before fresh.epoch fresh.priority_remaining_ns fresh.protected_remaining_ns
window_left before fresh (refused n) = before

module _ (t : List ThreadRecord) (q : CpuRunQueue) (c : CpuIndex) (now : ℕ) (w : CpuWindow)
    (current : Option Candidate) where
  heads_keep : (p : SelectionParts) (x : Out (Answer Heads))
      → Keeps w (on_out x (λ a t₂. on_answer a (λ n. out (peeked (refused n) w p) t₂) (λ h. chosen t₂ p now w h)))
  unfolding Keeps on_out on_answer chosen given
  heads_keep p (out (refused n) t₂) = refl
  heads_keep p (out (value h) t₂) = least_keeps t₂ h.heads now h.found.demand tree_count w None

  running_keeps : (p : SelectionParts) → Keeps w (peek_running t p c now w current)
  unfolding Keeps peek_running given on_out on_leaves
  running_keeps p = go (renew t p now (now / w.config.period_ns))
    where
      go : (x : Out (Leaves (Unit {0}) SelectionParts))
          → Keeps w (on_out x
          (λ s t₁. on_leaves s
          (λ n p₁. out (peeked (refused n) w p₁) t₁)
          (λ u p₁. on_out (gather_heads tree_count t₁ p₁.indices c now no_heads (of_current current))
          (λ a t₂. on_answer a (λ n. out (peeked (refused n) w p₁) t₂) (λ h. chosen t₂ p₁ now w h)))))
      go (out (leaves (refused n) p₁) t₁) = refl
      go (out (leaves (value u) p₁) t₁) =
          heads_keep p₁ (gather_heads tree_count t₁ p₁.indices c now no_heads (of_current current))

  parts_keep : (p : SelectionParts) → Keeps w (peek_parts t p c now w current)
  unfolding Keeps peek_parts if_less choose
  parts_keep p = go (ltb max_records (length t)) (sound_config w.config) p.halted
    where
      go : (large sound halted : Bool)
          → Keeps w (choose large (out (peeked (refused bad_table) w p) t)
          (choose sound (choose halted (out (peeked (refused queue_halted) w p) t) (peek_running t p c now w current))
          (out (peeked (refused bad_config) w p) t)))
      go true sound halted = refl
      go false false halted = refl
      go false true true = refl
      go false true false = running_keeps p

  peek_keeps : Keeps w (peek_next t q c now w current)
  unfolding Keeps peek_next on_out restored
  peek_keeps = go (peek_parts t (selection_parts q) c now w current) (parts_keep (selection_parts q))
    where
      go : (x : Out (Peeked SelectionParts)) → Keeps w x → Keeps w (on_out x (λ x t₁. out (restored q x) t₁))
      go (out (peeked (value a) w₁ p) t₁) h = h
      go (out (peeked (refused n) w₁ p) t₁) h = h

  -- So what the entry leaves is the window that selection leaves.
  pub progress : {a : Answer Selection} {w₁ : CpuWindow} {q₁ : CpuRunQueue} {t₁ : List ThreadRecord}
      → out (peeked a w₁ q₁) t₁ ≡ peek_next t q c now w current → window_left w w₁ a ≡ w₁
  unfolding Keeps
  progress {a} {w₁} {q₁} {t₁} e = go a (subst (Keeps w) (sym e) peek_keeps)
    where
      go : (x : Answer Selection) → Keeps w (out (peeked x w₁ q₁) t₁) → window_left w w₁ x ≡ w₁
      go (value s) h = ap (λ (x : ArbitrationConfig).
          record {
            config = x;
            epoch = w₁.epoch;
            priority_remaining_ns = w₁.priority_remaining_ns;
            protected_remaining_ns = w₁.protected_remaining_ns;
          }) (sym h)
      go (refused n) h = sym h
