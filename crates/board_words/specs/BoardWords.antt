-- What the words of a selection, of counters, keys and choices stand for, and the window that a configuration makes. A
-- flag is set where its word is not 0, a byte is its word's remainder by 256.
use Rattle.std.specs.Prelude.{ℕ, Bool, List, Option, Some, None}
use Rattle.refusal.specs.Answer.{Answer}
use Rattle.refusal.specs.Cases.{choose, if_equal, and_then}
use Rattle.window_config.specs.declared.ArbitrationConfig.{ArbitrationConfig}
use Rattle.window_config.specs.Config.{new_config, preferring}
use Rattle.arbitration.specs.declared.CpuWindow.{CpuWindow}
use Rattle.arbitration.specs.declared.Demand.{Demand}
use Rattle.arbitration.specs.Window.{new_window}
use Rattle.codec.specs.Codec.{word, policy_from}
use Rattle.decisions.specs.declared.Choice.{Choice}
use Rattle.decisions.specs.declared.Contention.{Contention}
use Rattle.decisions.specs.declared.Turns.{Turns}
use Rattle.selection.specs.declared.Selection.{Selection}
use Rattle.window_words.specs.WindowWords.{key_tag, flag_from, candidate_of, dispatch_key_of}
use Rattle.dispatch_keys.specs.declared.DispatchKey.{DispatchKey}
use Rattle.algorithms.specs.declared.Wide.{Wide}
use Rattle.arbitration.specs.declared.Candidate.{Candidate}
use Rattle.selection.specs.declared.ReadyThread.{ReadyThread}

-- Where a selection's words stand; a thread's key stands as a key's does.
abbrev pub selected_tag : ℕ
selected_tag = 0

abbrev pub selected_id : ℕ
selected_id = 1

abbrev pub selected_policy : ℕ
selected_policy = 9

abbrev pub selected_priority : ℕ
selected_priority = 10

abbrev pub selection_protected : ℕ
selection_protected = 11

abbrev pub selection_fair : ℕ
selection_fair = 12

abbrev pub selection_sensitive : ℕ
selection_sensitive = 13

abbrev pub selection_eligible : ℕ
selection_eligible = 14

abbrev pub selection_any : ℕ
selection_any = 15

abbrev pub min_pass_tag : ℕ
min_pass_tag = 16

abbrev pub min_pass_high : ℕ
min_pass_high = 17

abbrev pub min_pass_low : ℕ
min_pass_low = 18

-- The counters', and a choice's.
abbrev pub back_turn : ℕ
back_turn = 0

abbrev pub front_turn : ℕ
front_turn = 1

abbrev pub should_switch_word : ℕ
should_switch_word = 0

abbrev pub front_word : ℕ
front_word = 1

-- 0 none, else the thread with its number, its policy and its key.
unfoldable pub ready_of : List ℕ → Option ReadyThread
ready_of w =
    if_equal (word w selected_tag) 0 None
    (Some
    (record {
      id = record { 0 = word w selected_id };
      policy = policy_from (word w selected_policy) (word w selected_priority);
      key = dispatch_key_of w;
    }))

-- Five flags, in the order of declaration.
unfoldable pub demand_from : List ℕ → Demand
demand_from w =
    record {
      protected = flag_from (word w selection_protected);
      fair = flag_from (word w selection_fair);
      window_sensitive = flag_from (word w selection_sensitive);
      eligible_budget = flag_from (word w selection_eligible);
      any_budget = flag_from (word w selection_any);
    }

-- 0 none, else the pass, its high half first.
unfoldable pub pass_from : ℕ → ℕ → ℕ → Option Wide
pass_from tag high low = if_equal tag 0 None (Some (record { high = high; low = low }))

-- A selection of 19 words: the thread, the demand, and the lowest fair pass.
unfoldable pub selection_from : List ℕ → Selection
selection_from w =
    record {
      ready = ready_of w;
      demand = demand_from w;
      fair_min_pass = pass_from (word w min_pass_tag) (word w min_pass_high) (word w min_pass_low);
    }

-- The running thread, where there is one, by a candidate's row.
unfoldable pub current_of : Bool → List ℕ → Option Candidate
current_of running w = choose running (Some (candidate_of w)) None

-- The counters at the back and at the front.
unfoldable pub turns_of : List ℕ → Turns
turns_of w = record { back = word w back_turn; front = word w front_turn }

-- A ready key of nine words: 0 none, else the key, whose mode is not looked at.
unfoldable pub ready_key_of : List ℕ → Option DispatchKey
ready_key_of w = if_equal (word w key_tag) 0 None (Some (dispatch_key_of w))

-- Whether to switch, and whether the current thread then goes to the front.
unfoldable pub choice_of : List ℕ → Choice
choice_of w = record { should_switch = flag_from (word w should_switch_word); front = flag_from (word w front_word) }

abbrev pub contention : Bool → Bool → Bool → Demand → Contention
contention competition peer ready d =
    record { competition = competition; budget_peer = peer; ready = ready; demand = d }

-- A new window of the configuration that `ArbitrationConfig::new` makes, with the flag for fair threads as given.
unfoldable pub made_window : ArbitrationConfig → Answer CpuWindow
made_window c =
    and_then (new_config c.period_ns c.priority_allowance_ns c.protected_floor_ns c.order)
    (λ made. new_window (preferring made c.prefer_fair))
