-- Laws by which the functions meet the definitions: what was stored is what the words stand for.
use Rattle.std.specs.Prelude.{ℕ, ◌%◌, ◌≡◌, refl, Bool, true, false, List, [], ◌∷◌, Option, Some, None, Result, Ok, Err}
use Rattle.std.proofs.Math.Path.{sym}
use Rattle.std.proofs.Common.{ap, ◌∙◌}
use Rattle.refusal.specs.declared.Refusal.{Refusal}
use Rattle.refusal.specs.Answer.{Answer, refused, number_of, by_number}
use Rattle.refusal.specs.Cases.{choose, if_equal, and_then}
use Rattle.algorithms.specs.declared.Wide.{Wide}
use Rattle.dispatch_keys.specs.declared.DispatchKey.{DispatchKey}
use Rattle.window_config.specs.declared.ArbitrationConfig.{ArbitrationConfig}
use Rattle.window_config.specs.Config.{new_config, preferring}
use Rattle.arbitration.specs.declared.Candidate.{Candidate}
use Rattle.arbitration.specs.declared.CpuWindow.{CpuWindow}
use Rattle.arbitration.specs.declared.Demand.{Demand}
use Rattle.arbitration.specs.declared.DispatchMode.{DispatchMode}
use Rattle.arbitration.specs.Window.{new_window}
use Rattle.codec.specs.Codec.{word, policy_from}
use Rattle.decisions.specs.declared.Choice.{Choice}
use Rattle.decisions.specs.declared.Turns.{Turns}
use Rattle.selection.specs.declared.ReadyThread.{ReadyThread}
use Rattle.selection.specs.declared.Selection.{Selection}
use Rattle.window_words.specs.WindowWords.{flag_from, candidate_of, dispatch_key_of}
use Rattle.board_words.specs.BoardWords.{ready_of, demand_from, pass_from, selection_from, current_of, turns_of}
use Rattle.board_words.specs.BoardWords.{choice_of, contention, made_window}

-- The words of a thread stand for it.
pub thread_words : (r : ReadyThread) (p : List ℕ) (urgency rank algorithm band : ℕ)
    → policy_from (word p 0) (word p 1) ≡ r.policy → urgency % 256 ≡ r.key.urgency → rank % 256 ≡ r.key.rank
    → algorithm % 256 ≡ r.key.algorithm_rank → band % 256 ≡ r.key.band
    → ready_of (1 ∷ r.id.0 ∷ urgency ∷ rank ∷ algorithm ∷ r.key.algorithm.high ∷ r.key.algorithm.low ∷ band
    ∷ r.key.turn ∷ word p 0 ∷ word p 1 ∷ []) ≡ Some r
unfolding ready_of dispatch_key_of if_equal choose
thread_words r p urgency rank algorithm band a b c d e = rw (a, b, c, d, e)

module _ {x : Option ReadyThread} where
  pub no_thread_words : x ≡ None → ready_of (0 ∷ 0 ∷ 0 ∷ 0 ∷ 0 ∷ 0 ∷ 0 ∷ 0 ∷ 0 ∷ 0 ∷ 0 ∷ []) ≡ x
  unfolding ready_of if_equal choose
  no_thread_words e = sym e

  pub some_thread_words : {r : ReadyThread} (w : List ℕ) → x ≡ Some r → ready_of w ≡ Some r → ready_of w ≡ x
  some_thread_words w e h = h ∙ sym e

module _ {x : Option Wide} where
  pub no_pass_words : x ≡ None → pass_from 0 0 0 ≡ x
  unfolding pass_from if_equal choose
  no_pass_words e = sym e

  pub some_pass_words : {p : Wide} → x ≡ Some p → pass_from 1 p.high p.low ≡ x
  unfolding pass_from if_equal choose
  some_pass_words e = sym e

-- The words of a selection's parts stand for it.
pub selection_words : (s : Selection) (r p : List ℕ) (a b c d e : ℕ)
    → ready_of r ≡ s.ready → flag_from a ≡ s.demand.protected → flag_from b ≡ s.demand.fair
    → flag_from c ≡ s.demand.window_sensitive → flag_from d ≡ s.demand.eligible_budget
    → flag_from e ≡ s.demand.any_budget
    → pass_from (word p 0) (word p 1) (word p 2) ≡ s.fair_min_pass
    → selection_from (word r 0 ∷ word r 1 ∷ word r 2 ∷ word r 3 ∷ word r 4 ∷ word r 5 ∷ word r 6 ∷ word r 7 ∷ word r 8
    ∷ word r 9 ∷ word r 10 ∷ a ∷ b ∷ c ∷ d ∷ e ∷ word p 0 ∷ word p 1 ∷ word p 2 ∷ []) ≡ s
unfolding selection_from ready_of demand_from dispatch_key_of
selection_words s r p a b c d e h i j k l m n =
    λ z. record {
      ready = h z;
      demand =
          record { protected = i z; fair = j z; window_sensitive = k z; eligible_budget = l z; any_budget = m z };
      fair_min_pass = n z;
    }

-- The running thread, by its row.
module _ {flag running : Bool} (w : List ℕ) where
  pub current_some : {c : Candidate} → flag ≡ running → flag ≡ true → c ≡ candidate_of w
      → Some c ≡ current_of running w
  unfolding current_of choose
  current_some e m h = rw (sym e, m, h)

  pub current_none : flag ≡ running → flag ≡ false → None ≡ current_of running w
  unfolding current_of choose
  current_none e m = rw (sym e, m)

pub turns_stored : (c : Turns) → turns_of (c.back ∷ c.front ∷ []) ≡ c
unfolding turns_of
turns_stored c = refl

pub ready_made : {k x : DispatchKey} → k ≡ x → Some k ≡ Some x
ready_made e = ap Some e

pub key_made : {k x : DispatchKey} {m n : DispatchMode} → k ≡ x → m ≡ n
    → ◌≡◌ {A = Option (DispatchKey × DispatchMode)} (Some (k, m)) (Some (x, n))
key_made e f = rw (e, f)

pub contention_read : {a b c x y z : Bool} {d e : Demand} → a ≡ x → b ≡ y → c ≡ z → d ≡ e
    → record { competition = a; budget_peer = b; ready = c; demand = d } ≡ contention x y z e
contention_read e f g h = rw (e, f, g, h)

pub choice_words : (c : Choice) (a b : ℕ) → flag_from a ≡ c.should_switch → flag_from b ≡ c.front
    → choice_of (a ∷ b ∷ []) ≡ c
unfolding choice_of
choice_words c a b h i = λ z. record { should_switch = h z; front = i z }

-- A configuration that was made goes on to its window, a refusal is passed on.
module _ {x : Result ArbitrationConfig Refusal} (g : ArbitrationConfig) where
  pub made_of : {c k : ArbitrationConfig} {y : Answer CpuWindow}
      → by_number x ≡ new_config g.period_ns g.priority_allowance_ns g.protected_floor_ns g.order
      → x ≡ Ok c → k ≡ preferring c g.prefer_fair → y ≡ new_window k → y ≡ made_window g
  unfolding made_window and_then
  made_of e m h f = rw (sym e, m, sym h) f

  pub none_made : {n : Refusal}
      → by_number x ≡ new_config g.period_ns g.priority_allowance_ns g.protected_floor_ns g.order
      → x ≡ Err n → refused (number_of n) ≡ made_window g
  unfolding made_window and_then
  none_made e m = rw (sym e, m)

pub ruleset word_laws = (
  thread_words,
  no_thread_words,
  some_thread_words,
  no_pass_words,
  some_pass_words,
  selection_words,
  current_some,
  current_none,
  turns_stored,
  ready_made,
  key_made,
  contention_read,
  choice_words,
  made_of,
  none_made,
)
