-- The heads as the code holds them: the numbers of those that were found, one after the other. The laws (HeadLaws,
-- LookLaws) say that this is selection by `Heads`.
use Rattle.std.specs.Prelude.{ℕ, zero, suc, ◌-◌, Bool, true, false, List, [], ◌∷◌, ◌++◌, Option, None}
use Rattle.refusal.specs.Answer.{Answer, value, refused}
use Rattle.refusal.specs.Cases.{given, if_equal}
use Rattle.arbitration.specs.declared.Candidate.{Candidate}
use Rattle.arbitration.specs.declared.CpuWindow.{CpuWindow}
use Rattle.arbitration.specs.declared.Demand.{Demand}
use Rattle.arbitration.specs.Window.{refreshed}
use Rattle.arbitration.specs.Key.{key_of}
use Rattle.thread.specs.declared.CpuIndex.{CpuIndex}
use Rattle.thread.specs.declared.ThreadRecord.{ThreadRecord}
use Rattle.thread.specs.Membership.{on_link}
use Rattle.rows.specs.Table.{Out, out}
use Rattle.lists.specs.Lists.{on_answer, on_out}
use Rattle.queue.specs.declared.Root.{Root}
use Rattle.demands.specs.declared.Gathered.{Gathered}
use Rattle.selection.specs.declared.ReadyThread.{ReadyThread}
use Rattle.demands.specs.Demands.{of_current}
use Rattle.renewal.specs.Renewal.{head_of, root_at}
use Rattle.selection.specs.Heads.{Chosen, on_ready, on_key_option, comes_before, lesser_ready, ready_with}
use Rattle.selection.specs.Steps.{head_refreshed, head_gathered, Looked, looked}
use Rattle.queue.specs.RunQueue.{tree_count, last_tree}

unfoldable pub same_byte : ℕ → ℕ → Bool
same_byte a b = if_equal a b true false

-- The numbers of the heads that were found, and what they ask for, with the running thread.
pub record HeadNumbers : Type 0 where
  pub numbers : List ℕ
  pub found : Gathered

-- The heads of the last so many trees, after those that were found before. An empty tree is passed over.
unfoldable pub gather_numbers : ℕ → List ThreadRecord → List Root → CpuIndex → ℕ → List ℕ → Gathered
    → Out (Answer HeadNumbers)
gather_numbers zero t roots c now l g = out (value (record { numbers = l; found = g })) t
gather_numbers (suc left) t roots c now l g =
    given (last_tree - left)
    (λ k. on_answer (head_of t (root_at roots k))
    (λ n. out (refused n) t)
    (λ head. on_link head
    (gather_numbers left t roots c now l g)
    (λ id. on_out (head_refreshed t id c now)
    (λ a t₁. on_answer a
    (λ n. out (refused n) t₁)
    (λ u. gather_numbers left t₁ roots c now (l ++ (id ∷ [])) (head_gathered t₁ id g))))))

-- Whether a thread is chosen over the least so far.
unfoldable pub takes_over : Option ReadyThread → ReadyThread → Bool
takes_over best r = on_ready best true (λ old. comes_before r old)

-- The least so far with one more candidate, under a window that is refreshed to now.
unfoldable pub ready_by : Candidate → ℕ → CpuWindow → ℕ → Demand → Option ReadyThread → Option ReadyThread
ready_by c id w now d best =
    on_key_option (key_of w now c d) best
    (λ k mode. lesser_ready best (record { id = record { 0 = id }; policy = c.parameters.policy; key = k }))

-- The least key, under a window that is refreshed to now.
unfoldable pub least_number : List ThreadRecord → List ℕ → ℕ → Demand → CpuWindow → Option ReadyThread
    → Option ReadyThread
least_number t [] now d w best = best
least_number t (id ∷ l) now d w best = least_number t l now d w (ready_with t id w now d best)

-- The least key, and the window, which is refreshed at each head.
unfoldable pub least_numbers : List ThreadRecord → List ℕ → ℕ → Demand → CpuWindow → Option ReadyThread → Chosen
least_numbers t [] now d w best = record { window = w; ready = best }
least_numbers t (id ∷ l) now d w best =
    given (refreshed w now) (λ fresh. least_numbers t l now d fresh (ready_with t id fresh now d best))

-- The selection among the heads that were found, and the window as they leave it.
unfoldable pub chosen_number : List ThreadRecord → List ℕ → ℕ → CpuWindow → Gathered → Looked
chosen_number t l now w g =
    given (least_numbers t l now g.demand w None)
    (λ least. looked (value (record { ready = least.ready; demand = g.demand; fair_min_pass = g.fair_min_pass }))
    least.window)

-- `looked_at` by numbers.
unfoldable pub looked_numbers : List ThreadRecord → List Root → CpuIndex → ℕ → CpuWindow → Option Candidate → Out Looked
looked_numbers t roots c now w current =
    given (of_current current)
    (λ g. on_out (gather_numbers tree_count t roots c now [] g)
    (λ a t₁. on_answer a
    (λ n. out (looked (refused n) w) t₁)
    (λ h. given (chosen_number t₁ h.numbers now w h.found) (λ x. out x t₁))))
