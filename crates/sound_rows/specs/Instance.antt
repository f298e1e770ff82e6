-- Rows to which the theorems apply, by computation; and one that shows why they ask for an encoding.
use Rattle.std.specs.Prelude.{ℕ, ◌≡◌, refl, true, false, List, [], ◌∷◌, set}
use Rattle.refusal.specs.Cases.{choose, if_less, if_equal}
use Rattle.policy_words.specs.Encodes.{zeros, option_encodes, runtime_encodes}
use Rattle.policy_words.specs.EncodeLaws.{none_encodes, some_encodes}
use Rattle.codec.specs.Codec.{word, decoded, link_from, parameters_of, runtime_of, links_of, queue_links_of, left_word}
use Rattle.codec.specs.RowLaws.{left_stored}
use Rattle.codec.specs.Frame.{membership_encodes, RowFramed}
use Rattle.codec.specs.FrameLaws.{left_framed}
use Rattle.rows.specs.Frame.{framed_row}
use Rattle.images.specs.Encodes.{links_encode, queue_links_encode, policy_encodes, budget_encodes, parameters_encode}
use Rattle.images.specs.Encodes.{record_encodes, all_from, table_encodes}
use Rattle.sound_rows.specs.Encoding.{parts_encode}
use Rattle.sound_rows.specs.Theorems.{all_words, encoded_same, table_stays}

-- The row of 32 zeros, which encodes, with its left link stored once more as none.
abbrev row : List ℕ
row =
    0 ∷ 0 ∷ 0 ∷ 0 ∷ 0 ∷ 0 ∷ 0 ∷ 0 ∷ 0 ∷ 0 ∷ 0 ∷ 0 ∷ 0 ∷ 0 ∷ 0 ∷ 0 ∷ 0 ∷ 0 ∷ 0 ∷ 0 ∷ 0 ∷ 0 ∷ 0 ∷ 0 ∷ 0 ∷ 0 ∷ 0 ∷ 0 ∷ 0
    ∷ 0 ∷ 0 ∷ 0 ∷ []

abbrev none : List ℕ
none = 0 ∷ 0 ∷ []

row_encodes : parts_encode row ≡ true
unfolding parts_encode links_encode queue_links_encode runtime_encodes option_encodes membership_encodes zeros if_less
    if_equal choose
row_encodes = refl

pub stored_again : all_words (left_stored row none) ≡ all_words row
stored_again = encoded_same row (left_stored row none) row_encodes (left_framed row none refl none_encodes) refl

-- A table of that row, with a left link stored to record 5: a record's encoding before and after.
abbrev five : List ℕ
five = 1 ∷ 5 ∷ []

table_encodes_lem : table_encodes (row ∷ []) ≡ true
unfolding table_encodes all_from record_encodes parameters_encode policy_encodes budget_encodes links_encode
    queue_links_encode runtime_encodes option_encodes membership_encodes zeros if_less if_equal choose
table_encodes_lem = refl

pub linked_encodes : table_encodes (set (row ∷ []) 0 (left_stored row five)) ≡ true
linked_encodes =
    table_stays (row ∷ []) (set (row ∷ []) 0 (left_stored row five))
    (framed_row (row ∷ []) 0 (left_stored row five) (left_framed row five refl (some_encodes 5))) table_encodes_lem

-- The same row with a number beside the tag of a left link that is none: no record's encoding. Storing none there
-- leaves its record, and changes the word.
abbrev odd : List ℕ
odd = set row left_word 7

pub odd_encodes_not : parts_encode odd ≡ false
unfolding parts_encode links_encode queue_links_encode runtime_encodes option_encodes membership_encodes zeros if_less
    if_equal choose
odd_encodes_not = refl

pub odd_framed : RowFramed odd (left_stored odd none)
odd_framed = left_framed odd none refl none_encodes

pub odd_record_left : decoded (left_stored odd none) ≡ decoded odd
unfolding decoded parameters_of runtime_of links_of queue_links_of link_from if_equal choose
odd_record_left = refl

pub odd_word_before : word odd left_word ≡ 7
odd_word_before = refl

pub odd_word_after : word (left_stored odd none) left_word ≡ 0
odd_word_after = refl
