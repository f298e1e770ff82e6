-- The words that are stored for each variant are its encoding.
use Rattle.std.specs.Prelude.{ℕ, ◌≡◌, refl, true}
use Rattle.refusal.specs.Cases.{choose, if_less, if_equal}
use Rattle.policy_words.specs.Encodes.{zeros, option_encodes, runtime_encodes}

pub none_encodes : option_encodes 0 0 ≡ true
unfolding option_encodes if_equal choose
none_encodes = refl

pub some_encodes : (n : ℕ) → option_encodes 1 n ≡ true
unfolding option_encodes if_equal choose
some_encodes n = refl

pub fifo_encodes : runtime_encodes 0 0 0 0 0 ≡ true
unfolding runtime_encodes zeros if_less if_equal choose
fifo_encodes = refl

pub fair_encodes : (high low slice : ℕ) → runtime_encodes 1 high low slice 0 ≡ true
unfolding runtime_encodes if_equal choose
fair_encodes high low slice = refl

pub budget_encodes_lem : (tag n remaining burst : ℕ) → option_encodes tag n ≡ true
    → runtime_encodes 2 tag n remaining burst ≡ true
unfolding runtime_encodes if_equal choose
budget_encodes_lem tag n remaining burst e = e

pub idle_encodes : runtime_encodes 3 0 0 0 0 ≡ true
unfolding runtime_encodes zeros if_less if_equal choose
idle_encodes = refl

pub ruleset encodings = (none_encodes, some_encodes, fifo_encodes, fair_encodes, budget_encodes_lem, idle_encodes)
