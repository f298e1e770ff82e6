-- Whether words are the encoding of what they stand for, word by word: a tag that is a variant's number, a number
-- within its type, 0 where nothing uses a word.
use Rattle.std.specs.Prelude.{ℕ, Bool, false, eqb}
use Rattle.refusal.specs.Cases.{choose, if_less, if_equal}

-- Both, the second asked only where the first holds.
abbrev pub both : Bool → Bool → Bool
both a b = choose a b false

-- Three words that nothing uses.
unfoldable pub zeros : ℕ → ℕ → ℕ → Bool
zeros a b c = if_equal a 0 (if_equal b 0 (eqb c 0) false) false

-- Of a link and of an epoch: none has no number.
unfoldable pub option_encodes : ℕ → ℕ → Bool
option_encodes tag n = if_equal tag 0 (eqb n 0) (eqb tag 1)

unfoldable pub runtime_encodes : ℕ → ℕ → ℕ → ℕ → ℕ → Bool
runtime_encodes tag first second third fourth =
    if_equal tag 1 (eqb fourth 0)
    (if_equal tag 2 (option_encodes first second)
    (if_less tag 4 (both (zeros first second third) (eqb fourth 0)) false))
