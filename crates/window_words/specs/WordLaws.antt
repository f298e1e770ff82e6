-- Laws of a window's words and of its calls': what was stored is what they stand for.
use Rattle.std.specs.Prelude.{ℕ, ◌%◌, ◌≡◌, refl, Bool, true, false, List, [], ◌∷◌, length, set, Option, Some, None}
use Rattle.std.proofs.Math.Path.{sym}
use Rattle.std.proofs.Common.{◌∙◌}
use Rattle.refusal.specs.Cases.{choose, if_equal}
use Rattle.policy.specs.declared.SchedulingParameters.{SchedulingParameters}
use Rattle.window_config.specs.declared.ArbitrationConfig.{ArbitrationConfig}
use Rattle.window_config.specs.declared.ArbitrationOrder.{ArbitrationOrder}
use Rattle.arbitration.specs.declared.CpuWindow.{CpuWindow}
use Rattle.dispatch_keys.specs.declared.DispatchKey.{DispatchKey}
use Rattle.arbitration.specs.declared.DispatchMode.{DispatchMode}
use Rattle.arbitration.specs.declared.DispatchMode.TheVariants as mode
use Rattle.policy_words.specs.PolicyWords.{word, epoch_from, parameters_of}
use Rattle.policy_words.specs.ByWords.{by_words}
use Rattle.window_words.specs.WindowWords.{window_word_count, window_period, window_allowance, window_floor}
use Rattle.window_words.specs.WindowWords.{priority_rank_word}
use Rattle.window_words.specs.WindowWords.{budget_rank_word, fair_rank_word, borrow_rank_word, prefer_fair_word}
use Rattle.window_words.specs.WindowWords.{epoch_tag, epoch_word}
use Rattle.window_words.specs.WindowWords.{allowance_left, floor_left, demand_protected, demand_fair, demand_sensitive}
use Rattle.window_words.specs.WindowWords.{demand_eligible, demand_any, candidate_pass_high, candidate_pass_low}
use Rattle.window_words.specs.WindowWords.{candidate_available, candidate_turn, key_urgency, key_rank}
use Rattle.window_words.specs.WindowWords.{key_algorithm_rank}
use Rattle.window_words.specs.WindowWords.{key_high, key_low, key_band, key_turn}
use Rattle.window_words.specs.WindowWords.{flag_from, mode_from, order_of, config_of, window_of, configured}
use Rattle.window_words.specs.WindowWords.{progressed}
use Rattle.window_words.specs.WindowWords.{demand_of, candidate_of, dispatch_key_of, key_option_of}

pub set_flag : {b : Bool} → b ≡ true → flag_from 1 ≡ b
unfolding flag_from if_equal choose
set_flag h = sym h

pub clear_flag : {b : Bool} → b ≡ false → flag_from 0 ≡ b
unfolding flag_from if_equal choose
clear_flag h = sym h

module _ {m : DispatchMode} where
  pub strict_word : m ≡ mode.StrictFifo → mode_from 0 ≡ m
  unfolding mode_from if_equal choose
  strict_word h = sym h

  pub priority_word : m ≡ mode.Priority → mode_from 1 ≡ m
  unfolding mode_from if_equal choose
  priority_word h = sym h

  pub protected_word : m ≡ mode.Protected → mode_from 2 ≡ m
  unfolding mode_from if_equal choose
  protected_word h = sym h

  pub ordinary_word : m ≡ mode.Ordinary → mode_from 3 ≡ m
  unfolding mode_from if_equal choose
  ordinary_word h = sym h

  pub borrow_word : m ≡ mode.Borrow → mode_from 4 ≡ m
  unfolding mode_from if_equal choose
  borrow_word h = sym h

module _ {k : Option (DispatchKey × DispatchMode)} where
  pub no_key_words : k ≡ None → key_option_of (0 ∷ 0 ∷ 0 ∷ 0 ∷ 0 ∷ 0 ∷ 0 ∷ 0 ∷ 0 ∷ []) ≡ k
  unfolding key_option_of if_equal choose
  no_key_words h = sym h

  pub key_words : {x : DispatchKey} {m : DispatchMode} (w : List ℕ) → k ≡ Some (x, m) → key_option_of w ≡ Some (x, m)
      → key_option_of w ≡ k
  key_words w h e = e ∙ sym h

pub ruleset word_laws = (
  set_flag,
  clear_flag,
  strict_word,
  priority_word,
  protected_word,
  ordinary_word,
  borrow_word,
  no_key_words,
  key_words,
)

-- The parts that the words stand for make the whole.
module _ (w : List ℕ) where
  pub order_read : {priority budget fair borrow : ℕ}
      → priority ≡ word w priority_rank_word % 256
      → budget ≡ word w budget_rank_word % 256
      → fair ≡ word w fair_rank_word % 256
      → borrow ≡ word w borrow_rank_word % 256
      → record { priority_rank = priority; budget_rank = budget; fair_rank = fair; borrow_rank = borrow }
      ≡ order_of w
  unfolding order_of
  order_read e₁ e₂ e₃ e₄ = rw (e₁, e₂, e₃, e₄)

  pub config_read : {order : ArbitrationOrder} {prefer : Bool}
      → order ≡ order_of w
      → prefer ≡ flag_from (word w prefer_fair_word)
      → record {
        period_ns = word w window_period;
        priority_allowance_ns = word w window_allowance;
        protected_floor_ns = word w window_floor;
        order = order;
        prefer_fair = prefer;
      }
      ≡ config_of w
  unfolding config_of
  config_read e f = rw (e, f)

  pub window_read : {config : ArbitrationConfig} {epoch : Option ℕ}
      → config ≡ config_of w
      → epoch ≡ epoch_from (word w epoch_tag) (word w epoch_word)
      → record {
        config = config;
        epoch = epoch;
        priority_remaining_ns = word w allowance_left;
        protected_remaining_ns = word w floor_left;
      }
      ≡ window_of w
  unfolding window_of
  window_read e f = rw (e, f)

  pub demand_read : {protected fair sensitive eligible any : Bool}
      → protected ≡ flag_from (word w demand_protected)
      → fair ≡ flag_from (word w demand_fair)
      → sensitive ≡ flag_from (word w demand_sensitive)
      → eligible ≡ flag_from (word w demand_eligible)
      → any ≡ flag_from (word w demand_any)
      → record {
        protected = protected;
        fair = fair;
        window_sensitive = sensitive;
        eligible_budget = eligible;
        any_budget = any;
      }
      ≡ demand_of w
  unfolding demand_of
  demand_read e₁ e₂ e₃ e₄ e₅ = rw (e₁, e₂, e₃, e₄, e₅)

  pub candidate_read : {parameters : SchedulingParameters} {available : Bool}
      → parameters ≡ parameters_of w
      → available ≡ flag_from (word w candidate_available)
      → record {
        parameters = parameters;
        fair_pass = record { high = word w candidate_pass_high; low = word w candidate_pass_low };
        turn = word w candidate_turn;
        budget_available = available;
      }
      ≡ candidate_of w
  unfolding candidate_of
  candidate_read e f = rw (e, f)

  pub dispatch_key_read : {urgency rank algorithm band : ℕ}
      → urgency ≡ word w key_urgency % 256
      → rank ≡ word w key_rank % 256
      → algorithm ≡ word w key_algorithm_rank % 256
      → band ≡ word w key_band % 256
      → record {
        urgency = urgency;
        rank = rank;
        algorithm_rank = algorithm;
        algorithm = record { high = word w key_high; low = word w key_low };
        band = band;
        turn = word w key_turn;
      }
      ≡ dispatch_key_of w
  unfolding dispatch_key_of
  dispatch_key_read e₁ e₂ e₃ e₄ = rw (e₁, e₂, e₃, e₄)

-- A window's words with those of a configuration stored, and with those of what time changes.
abbrev with_config : List ℕ → ArbitrationConfig → ℕ → ℕ → ℕ → ℕ → ℕ → List ℕ
with_config r c priority budget fair borrow prefer =
    set
    (set
    (set
    (set
    (set
    (set
    (set
    (set r window_period c.period_ns) window_allowance c.priority_allowance_ns)
    window_floor c.protected_floor_ns)
    priority_rank_word priority)
    budget_rank_word budget)
    fair_rank_word fair)
    borrow_rank_word borrow)
    prefer_fair_word prefer

abbrev with_progress : List ℕ → List ℕ → ℕ → ℕ → List ℕ
with_progress r a allowance floor =
    set (set (set (set r epoch_tag (word a 0)) epoch_word (word a 1)) allowance_left allowance) floor_left floor

pub config_stored : (r : List ℕ) (c : ArbitrationConfig) (priority budget fair borrow prefer : ℕ)
    → length r ≡ window_word_count
    → priority % 256 ≡ c.order.priority_rank
    → budget % 256 ≡ c.order.budget_rank
    → fair % 256 ≡ c.order.fair_rank
    → borrow % 256 ≡ c.order.borrow_rank
    → flag_from prefer ≡ c.prefer_fair
    → window_of (with_config r c priority budget fair borrow prefer) ≡ configured (window_of r) c
unfolding window_of config_of order_of
config_stored r c priority budget fair borrow prefer size e₁ e₂ e₃ e₄ e₅ =
    by_words window_word_count
    (λ (r : List ℕ). window_of (with_config r c priority budget fair borrow prefer) ≡ configured (window_of r) c)
    (λ x0 x1 x2 x3 x4 x5 x6 x7 x8 x9 x10 x11. rw (e₁, e₂, e₃, e₄, e₅))
    r size

pub progress_stored : (r : List ℕ) (e : Option ℕ) (a : List ℕ) (allowance floor : ℕ)
    → length r ≡ window_word_count
    → epoch_from (word a 0) (word a 1) ≡ e
    → window_of (with_progress r a allowance floor) ≡ progressed (window_of r) e allowance floor
unfolding window_of config_of order_of
progress_stored r e a allowance floor size h =
    by_words window_word_count
    (λ (r : List ℕ). window_of (with_progress r a allowance floor) ≡ progressed (window_of r) e allowance floor)
    (λ x0 x1 x2 x3 x4 x5 x6 x7 x8 x9 x10 x11. rw h)
    r size

-- A row whose configuration and progress were stored stands for the window with both.
pub window_stored : (w : CpuWindow) (w₀ w₁ w₂ : List ℕ)
    → window_of w₁ ≡ configured (window_of w₀) w.config
    → window_of w₂ ≡ progressed (window_of w₁) w.epoch w.priority_remaining_ns w.protected_remaining_ns
    → window_of w₂ ≡ w
window_stored w w₀ w₁ w₂ e₁ e₂ = rw (e₂, e₁)

pub key_stored : (k : DispatchKey) (m : DispatchMode) (mode urgency rank algorithm band : ℕ)
    → mode_from mode ≡ m
    → urgency % 256 ≡ k.urgency
    → rank % 256 ≡ k.rank
    → algorithm % 256 ≡ k.algorithm_rank
    → band % 256 ≡ k.band
    → key_option_of (1 ∷ mode ∷ urgency ∷ rank ∷ algorithm ∷ k.algorithm.high ∷ k.algorithm.low ∷ band ∷ k.turn ∷ [])
    ≡ Some (k, m)
unfolding key_option_of dispatch_key_of if_equal choose
key_stored k m mode urgency rank algorithm band e₁ e₂ e₃ e₄ e₅ = rw (e₁, e₂, e₃, e₄, e₅)
