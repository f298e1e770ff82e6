-- Laws of a configuration's words: each test that fails makes it one that `ArbitrationConfig::new` refuses, whatever
-- the others say, and all that hold make it sound.
use Rattle.std.specs.Prelude.{ℕ, ◌-◌, ◌%◌, ◌<◌, ◌≤◌, ◌≡◌, Bool, true, false, List, ltb, eqb}
use native.Mathlib.Omega.{arith}
use Rattle.std.proofs.Math.Path.{refl}
use Rattle.std.proofs.Common.{sym}
use borrow.Author.Tests.{lt-ltb, le-ltb, eq-eqb, ne_eqb}
use Rattle.refusal.specs.Cases.{choose, if_less, if_equal}
use Rattle.policy.specs.Budget.{max_period}
use Rattle.window_config.specs.Config.{ranks_rise, sound_config}
use Rattle.policy_words.specs.PolicyWords.{word}
use Rattle.window_words.specs.WindowWords.{window_period, window_allowance, window_floor}
use Rattle.window_words.specs.WindowWords.{priority_rank_word, budget_rank_word, fair_rank_word, borrow_rank_word}
use Rattle.window_words.specs.WindowWords.{order_of, config_of}

neither : (b : Bool) {x y : Bool} → false ≡ x → false ≡ y → false ≡ choose b x y
unfolding choose
neither true h k = h
neither false h k = k

module _ (w : List ℕ) where
  unranked : false ≡ ranks_rise (order_of w) → false ≡ sound_config (config_of w)
  unfolding sound_config config_of if_equal if_less
  unranked h =
      rw (sym h)
      (neither (eqb (word w window_period) 0) refl
      (neither (ltb max_period (word w window_period)) refl
      (neither (eqb (word w window_floor) 0) refl
      (neither (ltb (word w window_floor) (word w window_period))
      (neither (ltb (word w window_allowance) (word w window_period - word w window_floor)) refl refl) refl))))

  first_rank : word w budget_rank_word % 256 ≤ word w priority_rank_word % 256 → false ≡ ranks_rise (order_of w)
  unfolding ranks_rise order_of if_less
  first_rank h = rw (le-ltb (word w priority_rank_word % 256) (word w budget_rank_word % 256) h) refl

  second_rank : word w fair_rank_word % 256 ≤ word w budget_rank_word % 256 → false ≡ ranks_rise (order_of w)
  unfolding ranks_rise order_of if_less
  second_rank h =
      rw (le-ltb (word w budget_rank_word % 256) (word w fair_rank_word % 256) h)
      (neither (ltb (word w priority_rank_word % 256) (word w budget_rank_word % 256)) refl refl)

  third_rank : word w borrow_rank_word % 256 ≤ word w fair_rank_word % 256 → false ≡ ranks_rise (order_of w)
  unfolding ranks_rise order_of if_less
  third_rank h =
      rw (le-ltb (word w fair_rank_word % 256) (word w borrow_rank_word % 256) h)
      (neither (ltb (word w priority_rank_word % 256) (word w budget_rank_word % 256))
      (neither (ltb (word w budget_rank_word % 256) (word w fair_rank_word % 256)) refl refl) refl)

  pub budget_not_after : word w budget_rank_word % 256 ≤ word w priority_rank_word % 256
      → false ≡ sound_config (config_of w)
  budget_not_after h = unranked (first_rank h)

  pub fair_not_after : word w fair_rank_word % 256 ≤ word w budget_rank_word % 256 → false ≡ sound_config (config_of w)
  fair_not_after h = unranked (second_rank h)

  pub borrow_not_after : word w borrow_rank_word % 256 ≤ word w fair_rank_word % 256
      → false ≡ sound_config (config_of w)
  borrow_not_after h = unranked (third_rank h)

  pub floor_not_below : word w window_period ≤ word w window_floor → false ≡ sound_config (config_of w)
  unfolding sound_config config_of if_equal if_less
  floor_not_below h =
      rw (le-ltb (word w window_floor) (word w window_period) h)
      (neither (eqb (word w window_period) 0) refl
      (neither (ltb max_period (word w window_period)) refl (neither (eqb (word w window_floor) 0) refl refl)))

  pub no_floor : word w window_floor ≡ 0 → false ≡ sound_config (config_of w)
  unfolding sound_config config_of if_equal if_less
  no_floor h =
      rw (eq-eqb (word w window_floor) 0 h)
      (neither (eqb (word w window_period) 0) refl (neither (ltb max_period (word w window_period)) refl refl))

  pub allowance_not_below : word w window_period - word w window_floor ≤ word w window_allowance
      → false ≡ sound_config (config_of w)
  unfolding sound_config config_of if_equal if_less
  allowance_not_below h =
      rw (le-ltb (word w window_allowance) (word w window_period - word w window_floor) h)
      (neither (eqb (word w window_period) 0) refl
      (neither (ltb max_period (word w window_period)) refl
      (neither (eqb (word w window_floor) 0) refl
      (neither (ltb (word w window_floor) (word w window_period)) refl refl))))

  pub period_too_long : max_period < word w window_period → false ≡ sound_config (config_of w)
  unfolding sound_config config_of if_equal if_less
  period_too_long h = rw (lt-ltb max_period (word w window_period) h) (neither (eqb (word w window_period) 0) refl refl)

  pub all_hold : word w priority_rank_word % 256 < word w budget_rank_word % 256
      → word w budget_rank_word % 256 < word w fair_rank_word % 256
      → word w fair_rank_word % 256 < word w borrow_rank_word % 256
      → word w window_floor < word w window_period → (word w window_floor ≡ 0 → ⊥)
      → word w window_allowance < word w window_period - word w window_floor → word w window_period ≤ max_period
      → true ≡ sound_config (config_of w)
  unfolding sound_config ranks_rise config_of order_of if_equal if_less
  all_hold a b c below floor allowance period =
      let some : word w window_period ≡ 0 → ⊥ = λ z. omega arith in
      rw (
        ne_eqb (word w window_period) 0 some,
        le-ltb max_period (word w window_period) period,
        ne_eqb (word w window_floor) 0 floor,
        lt-ltb (word w window_floor) (word w window_period) below,
        lt-ltb (word w window_allowance) (word w window_period - word w window_floor) allowance,
        lt-ltb (word w priority_rank_word % 256) (word w budget_rank_word % 256) a,
        lt-ltb (word w budget_rank_word % 256) (word w fair_rank_word % 256) b,
        lt-ltb (word w fair_rank_word % 256) (word w borrow_rank_word % 256) c,
      )
      refl

pub ruleset sound_words = (
  budget_not_after,
  fair_not_after,
  borrow_not_after,
  floor_not_below,
  no_floor,
  allowance_not_below,
  period_too_long,
  all_hold,
)
