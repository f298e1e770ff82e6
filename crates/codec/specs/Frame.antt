-- What calls leave of a row's words. Contracts that speak of what words stand for say which record a row becomes; this
-- says what becomes of the words: those that no call stores are as they were, and each part of the others is as it was
-- or is the encoding of what it stands for.
use Rattle.std.specs.Prelude.{ℕ, zero, suc, ◌≡◌, Bool, true, false, List, [], ◌∷◌, ◌++◌, ltb, eqb}
use Rattle.refusal.specs.Cases.{choose, if_less, if_equal}
use Rattle.policy_words.specs.PolicyWords.{policy_tag, runtime_tag, runtime_fourth}
unfoldable pub use Rattle.policy_words.specs.Encodes.{zeros, option_encodes, runtime_encodes}
use Rattle.codec.specs.Codec.{word, left_tag, right_tag, height_word, previous_tag, next_tag, membership_tag, cpu_word}

unfoldable pub membership_encodes : ℕ → ℕ → ℕ → Bool
membership_encodes tag first second =
    if_equal tag 1 (if_less first 256 (ltb second 256) false)
    (if_equal tag 2 (if_less first 256 (eqb second 0) false)
    (if_equal tag 3 (eqb second 0)
    (if_less tag 5 (zeros first second 0) false)))

-- So many words of a row, from the k-th on.
abbrev pub words_from : List ℕ → ℕ → ℕ → List ℕ
words_from w k zero = []
words_from w k (suc n) = word w k ∷ words_from w (suc k) n

-- The words that no call stores: the parameters, the processor and the two spare words.
abbrev pub beside_words : List ℕ → List ℕ
beside_words w = words_from w policy_tag 11 ++ words_from w cpu_word 3

-- The words of each part that calls store. The turn is a word by itself and any number: it always encodes. A budget's
-- burst is stored with its runtime and also by itself, so it is a part, with the tag that says whether there is one.
abbrev pub runtime_words : List ℕ → List ℕ
runtime_words w = words_from w runtime_tag 4

abbrev pub burst_words : List ℕ → List ℕ
burst_words w = word w runtime_tag ∷ word w runtime_fourth ∷ []

abbrev pub left_words : List ℕ → List ℕ
left_words w = words_from w left_tag 2

abbrev pub right_words : List ℕ → List ℕ
right_words w = words_from w right_tag 2

abbrev pub height_words : List ℕ → List ℕ
height_words w = words_from w height_word 1

abbrev pub previous_words : List ℕ → List ℕ
previous_words w = words_from w previous_tag 2

abbrev pub next_words : List ℕ → List ℕ
next_words w = words_from w next_tag 2

abbrev pub membership_words : List ℕ → List ℕ
membership_words w = words_from w membership_tag 3

-- The test of a part's words.
abbrev pub a_runtime : List ℕ → Bool
a_runtime p = runtime_encodes (word p 0) (word p 1) (word p 2) (word p 3) 0

abbrev pub a_burst : List ℕ → Bool
a_burst p = if_equal (word p 0) 2 true (eqb (word p 1) 0)

abbrev pub a_link : List ℕ → Bool
a_link p = option_encodes (word p 0) (word p 1)

abbrev pub a_height : List ℕ → Bool
a_height p = ltb (word p 0) 256

abbrev pub a_membership : List ℕ → Bool
a_membership p = membership_encodes (word p 0) (word p 1) (word p 2)

-- What became of a part's words: they are as they were, or they encode.
pub data Part (encodes : List ℕ → Bool) (was now : List ℕ) : Type 0 where
  kept : now ≡ was → Part encodes was now
  stored : encodes now ≡ true → Part encodes was now

-- v is what became of w (SPECIFICATION 11.3).
pub record RowFramed (w v : List ℕ) : Type 0 where
  pub beside : beside_words v ≡ beside_words w
  pub runtime : Part a_runtime (runtime_words w) (runtime_words v)
  pub burst : Part a_burst (burst_words w) (burst_words v)
  pub left : Part a_link (left_words w) (left_words v)
  pub right : Part a_link (right_words w) (right_words v)
  pub height : Part a_height (height_words w) (height_words v)
  pub previous : Part a_link (previous_words w) (previous_words v)
  pub next : Part a_link (next_words w) (next_words v)
  pub membership : Part a_membership (membership_words w) (membership_words v)
