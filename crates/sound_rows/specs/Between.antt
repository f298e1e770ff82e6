-- Why a row that nothing encodes to may change where its record is left, whatever a store were to ask first: an
-- insertion that leaves record 1, and that has stored another left link there in between. Neither of the two stores
-- finds what it stores, so no test passes it over; and the second does not know which words the first replaced.
use Rattle.std.specs.Prelude.{ℕ, ◌≡◌, refl, true, false, List, [], ◌∷◌, map, get_or, set, Some, None, Ok}
use Rattle.std.proofs.Common.{sym, ap, ◌∙◌}
use Rattle.std.proofs.Math.ListN.{get_or-map}
use Rattle.refusal.specs.Cases.{never, if_less, if_equal, given}
use Rattle.order.specs.Order.{compare_numbers, then_by, compare_parts, on_ordering}
use Rattle.policy.specs.declared.SchedulingRole.TheVariants as role
use Rattle.policy.specs.Parameters.{of_fifo}
use Rattle.policy.specs.PolicyCases.{on_policy}
use Rattle.algorithms.specs.declared.PolicyRuntime.TheVariants as runtime
use Rattle.policy_words.specs.Encodes.{option_encodes}
use Rattle.thread.specs.declared.Links.{Links}
use Rattle.thread.specs.declared.ThreadRecord.{ThreadRecord}
use Rattle.thread.specs.Membership.{on_link, empty_links, empty_queue_links}
use Rattle.thread.specs.TreeKey.{algorithm_key, tree_key, ready_index_key, parts, compare_tree_keys}
use Rattle.codec.specs.Codec.{word, left_tag, left_word, decoded, parameters_of, policy_from, role_from, backend_from}
use Rattle.codec.specs.Codec.{budget_from, runtime_of, runtime_from, links_of, link_from, queue_links_of}
use Rattle.codec.specs.Codec.{membership_from}
use Rattle.codec.specs.Frame.{left_words, a_link, Part, kept, stored}
use Rattle.rows.specs.Table.{out, answer, after, table, record_of, changed, reading, storing, links_at, key_at}
use Rattle.rows.specs.Table.{set_links}
use Rattle.rows.specs.TableCases.{on_links, on_key, on_made}
use Rattle.rows.specs.Frame.{Framed}
use Rattle.avl.specs.Rotation.{lean_of, on_lean}
use Rattle.rotations.specs.Cases.{on_height, on_turned}
use Rattle.rotations.specs.Balance.{height, larger, update, rotate_left, rotate_right, balance_right, balance}
use Rattle.ready_index.specs.Cases.{on_way}
use Rattle.ready_index.specs.Index.{way_at, on_walk, walk, hung, rebuild_step, rebuild, insert}
use Rattle.images.specs.Encoded.{encoded, policy_words_of, role_word, backend_word, budget_words, runtime_words}
use Rattle.images.specs.Encoded.{link_words}
use Rattle.images.specs.Encoded.{membership_words}
use Rattle.images.specs.PartLaws.{link_exact}
use Rattle.sound_rows.specs.Theorems.{same_words}

-- The definitions that an insertion goes through, and those of a row's words and of what they stand for.
unfoldable inserting : Unit {0}
unfolding if_less given compare_numbers then_by compare_parts on_ordering on_policy on_link algorithm_key tree_key
    ready_index_key parts compare_tree_keys record_of changed reading storing links_at key_at set_links on_links on_key
    on_made lean_of on_lean on_height on_turned height larger update rotate_left rotate_right balance_right balance
    on_way way_at on_walk walk hung rebuild_step rebuild insert
inserting = tt

unfoldable encoding : Unit {0}
unfolding if_equal encoded policy_words_of role_word backend_word budget_words runtime_words link_words membership_words
    table decoded parameters_of policy_from role_from backend_from budget_from runtime_of runtime_from links_of
    link_from queue_links_of membership_from
encoding = tt

-- A FIFO record of one priority, in which the turn decides.
abbrev turning : ℕ → Links → ThreadRecord
turning n links =
    record {
      parameters = of_fifo (record { 0 = 1 }) (record { 0 = 1 }) role.Ordinary;
      runtime = runtime.Fifo;
      ready_turn = n;
      ready_tree = links;
      queue_links = empty_queue_links;
      cpu = record { 0 = 0 };
    }

-- A tree of record 0 and, on its right, record 1; record 2 has its turn between theirs.
abbrev root : ThreadRecord
root = turning 0 (record { left = None; right = Some 1; height = 2 })

abbrev pub three : List ThreadRecord
three = root ∷ turning 2 empty_links ∷ turning 1 empty_links ∷ []

-- The table after the first of the two steps up from record 2, put into the tree: it hangs on the left of record 1.
abbrev pub between : List ThreadRecord
between =
    root ∷ turning 2 (record { left = Some 2; right = None; height = 2 }) ∷ turning 1 empty_links ∷ []

pub first_step : rebuild_step three (record { id = 1; right = false }) (Some 2) ≡ out (Ok 1) between
unfolding inserting
first_step = refl

pub then_second : insert three (Some 0) 2 ≡ rebuild (record { id = 0; right = true } ∷ []) between (Some 1)
unfolding inserting
then_second = refl

pub stored_between : (record_of between 1).ready_tree.left ≡ Some 2
unfolding record_of
stored_between = refl

-- The second step turns the tree, twice: record 2 is its root, and record 1 a leaf as before.
pub accepted : answer (insert three (Some 0) 2) ≡ Ok (Some 2)
unfolding inserting
accepted = refl

pub left_as_it_was : record_of (after (insert three (Some 0) 2)) 1 ≡ record_of three 1
unfolding inserting
left_as_it_was = refl

-- Rows that stand for the three records, with 7 beside the tag of record 1's left link, which is none.
abbrev pub odd : List (List ℕ)
odd = set (map encoded three) 1 (set (encoded (turning 2 empty_links)) left_word 7)

pub odd_stands : table odd ≡ three
unfolding encoding
odd_stands = refl

pub odd_words : left_words (get_or odd 1 []) ≡ 0 ∷ 7 ∷ []
unfolding encoding
odd_words = refl

-- What rows stand for, of a left link; and words that come to stand for another link, which encode it.
left_is : (t : List (List ℕ)) (records : List ThreadRecord) (j : ℕ) → table t ≡ records
    → link_from (word (get_or t j []) left_tag) (word (get_or t j []) left_word) ≡ (record_of records j).ready_tree.left
unfolding table record_of decoded links_of
left_is t records j e =
    ap (λ (r : ThreadRecord). r.ready_tree.left)
    (sym (get_or-map decoded t j []) ∙ ap (λ (l : List ThreadRecord). record_of l j) e)

another_encodes : {t n s m : ℕ} → Part a_link (t ∷ n ∷ []) (s ∷ m ∷ []) → (link_from s m ≡ link_from t n → ⊥)
    → option_encodes s m ≡ true
another_encodes (kept p) apart = absurd (apart (ap (λ (l : List ℕ). link_from (word l 0) (word l 1)) p))
another_encodes (stored q) apart = q

-- Whatever that row was at first: where rows stand for `between`, and what calls leave of them for the insertion's end,
-- record 1's left link has the words 0, 0.
pub zeros_in_the_end : (m s : List (List ℕ)) → Framed m s → table m ≡ between
    → table s ≡ after (insert three (Some 0) 2) → left_words (get_or s 1 []) ≡ 0 ∷ 0 ∷ []
unfolding inserting link_words
zeros_in_the_end m s f e d =
    let was = left_is m between 1 e in
    let is = left_is s (after (insert three (Some 0) 2)) 1 d in
    same_words link_words {x = None} refl
    (link_exact _ _ (another_encodes (f.row 1).left (λ same. never (let p = sym is ∙ same ∙ was in cc)))) is
