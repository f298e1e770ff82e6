-- What the words of a CPU window, and of what its calls are handed and answer, stand for. A flag is set where its word
-- is not 0, a byte is its word's remainder by 256, a tag beyond the last variant's is the last variant's.
use Rattle.std.specs.Prelude.{ℕ, ◌%◌, Bool, true, false, List, Option, Some, None}
use Rattle.refusal.specs.Cases.{if_equal}
use Rattle.window_config.specs.declared.ArbitrationOrder.{ArbitrationOrder}
use Rattle.window_config.specs.declared.ArbitrationConfig.{ArbitrationConfig}
use Rattle.arbitration.specs.declared.CpuWindow.{CpuWindow}
use Rattle.arbitration.specs.declared.Demand.{Demand}
use Rattle.arbitration.specs.declared.Candidate.{Candidate}
use Rattle.dispatch_keys.specs.declared.DispatchKey.{DispatchKey}
use Rattle.arbitration.specs.declared.DispatchMode.{DispatchMode}
use Rattle.arbitration.specs.declared.DispatchMode.TheVariants as mode
use Rattle.policy_words.specs.PolicyWords.{word, epoch_from, parameters_of}

-- Where a window's words stand, and how many they are.
abbrev pub window_word_count : ℕ
window_word_count = 12

abbrev pub window_period : ℕ
window_period = 0

abbrev pub window_allowance : ℕ
window_allowance = 1

abbrev pub window_floor : ℕ
window_floor = 2

abbrev pub priority_rank_word : ℕ
priority_rank_word = 3

abbrev pub budget_rank_word : ℕ
budget_rank_word = 4

abbrev pub fair_rank_word : ℕ
fair_rank_word = 5

abbrev pub borrow_rank_word : ℕ
borrow_rank_word = 6

abbrev pub prefer_fair_word : ℕ
prefer_fair_word = 7

abbrev pub epoch_tag : ℕ
epoch_tag = 8

abbrev pub epoch_word : ℕ
epoch_word = 9

abbrev pub allowance_left : ℕ
allowance_left = 10

abbrev pub floor_left : ℕ
floor_left = 11

-- A demand's.
abbrev pub demand_protected : ℕ
demand_protected = 0

abbrev pub demand_fair : ℕ
demand_fair = 1

abbrev pub demand_sensitive : ℕ
demand_sensitive = 2

abbrev pub demand_eligible : ℕ
demand_eligible = 3

abbrev pub demand_any : ℕ
demand_any = 4

-- A candidate's, in a thread's row.
abbrev pub candidate_pass_high : ℕ
candidate_pass_high = 12

abbrev pub candidate_pass_low : ℕ
candidate_pass_low = 13

abbrev pub candidate_available : ℕ
candidate_available = 14

abbrev pub candidate_turn : ℕ
candidate_turn = 16

-- A key's.
abbrev pub key_tag : ℕ
key_tag = 0

abbrev pub key_mode : ℕ
key_mode = 1

abbrev pub key_urgency : ℕ
key_urgency = 2

abbrev pub key_rank : ℕ
key_rank = 3

abbrev pub key_algorithm_rank : ℕ
key_algorithm_rank = 4

abbrev pub key_high : ℕ
key_high = 5

abbrev pub key_low : ℕ
key_low = 6

abbrev pub key_band : ℕ
key_band = 7

abbrev pub key_turn : ℕ
key_turn = 8

unfoldable pub flag_from : ℕ → Bool
flag_from n = if_equal n 0 false true

-- 0 StrictFifo, 1 Priority, 2 Protected, 3 Ordinary, else Borrow.
unfoldable pub mode_from : ℕ → DispatchMode
mode_from tag =
    if_equal tag 0 mode.StrictFifo
    (if_equal tag 1 mode.Priority
    (if_equal tag 2 mode.Protected
    (if_equal tag 3 mode.Ordinary mode.Borrow)))

-- The ranks of a window's configuration.
unfoldable pub order_of : List ℕ → ArbitrationOrder
order_of w =
    record {
      priority_rank = word w priority_rank_word % 256;
      budget_rank = word w budget_rank_word % 256;
      fair_rank = word w fair_rank_word % 256;
      borrow_rank = word w borrow_rank_word % 256;
    }

-- A window's words before the epoch's: period, allowance, floor, the ranks, and whether fair threads are preferred.
unfoldable pub config_of : List ℕ → ArbitrationConfig
config_of w =
    record {
      period_ns = word w window_period;
      priority_allowance_ns = word w window_allowance;
      protected_floor_ns = word w window_floor;
      order = order_of w;
      prefer_fair = flag_from (word w prefer_fair_word);
    }

-- A window of 12 words: the configuration, the epoch's two words, what remains of the allowance, what remains of the
-- floor (SPECIFICATION 5.5).
unfoldable pub window_of : List ℕ → CpuWindow
window_of w =
    record {
      config = config_of w;
      epoch = epoch_from (word w epoch_tag) (word w epoch_word);
      priority_remaining_ns = word w allowance_left;
      protected_remaining_ns = word w floor_left;
    }

-- The window with this configuration.
abbrev pub configured : CpuWindow → ArbitrationConfig → CpuWindow
configured w c =
    record {
      config = c;
      epoch = w.epoch;
      priority_remaining_ns = w.priority_remaining_ns;
      protected_remaining_ns = w.protected_remaining_ns;
    }

-- The window with this epoch, and this much left of allowance and floor: all that time changes.
abbrev pub progressed : CpuWindow → Option ℕ → ℕ → ℕ → CpuWindow
progressed w e allowance floor =
    record { config = w.config; epoch = e; priority_remaining_ns = allowance; protected_remaining_ns = floor }

-- Five flags, in the order of declaration.
unfoldable pub demand_of : List ℕ → Demand
demand_of w =
    record {
      protected = flag_from (word w demand_protected);
      fair = flag_from (word w demand_fair);
      window_sensitive = flag_from (word w demand_sensitive);
      eligible_budget = flag_from (word w demand_eligible);
      any_budget = flag_from (word w demand_any);
    }

-- A row of 32 words whose parts stand where a record's do; where a budget's time stands, a word that is not 0 where
-- there is time left.
unfoldable pub candidate_of : List ℕ → Candidate
candidate_of w =
    record {
      parameters = parameters_of w;
      fair_pass = record { high = word w candidate_pass_high; low = word w candidate_pass_low };
      turn = word w candidate_turn;
      budget_available = flag_from (word w candidate_available);
    }

-- A key's words after its mode.
unfoldable pub dispatch_key_of : List ℕ → DispatchKey
dispatch_key_of w =
    record {
      urgency = word w key_urgency % 256;
      rank = word w key_rank % 256;
      algorithm_rank = word w key_algorithm_rank % 256;
      algorithm = record { high = word w key_high; low = word w key_low };
      band = word w key_band % 256;
      turn = word w key_turn;
    }

-- A key of nine words: 0 none, else the key with its mode.
unfoldable pub key_option_of : List ℕ → Option (DispatchKey × DispatchMode)
key_option_of w = if_equal (word w key_tag) 0 None (Some ((dispatch_key_of w), (mode_from (word w key_mode))))
