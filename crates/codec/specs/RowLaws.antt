-- Laws of rows: a store of the words of one part changes that part of the record, and no other.
use Rattle.std.specs.Prelude.{ℕ, ◌%◌, ◌≡◌, refl, List, length, set, Option}
use Rattle.std.proofs.Common.{sym}
use Rattle.policy.specs.declared.SchedulingParameters.{SchedulingParameters}
use Rattle.algorithms.specs.declared.PolicyRuntime.{PolicyRuntime}
use Rattle.algorithms.specs.declared.Wide.{Wide}
use Rattle.thread.specs.declared.CpuIndex.{CpuIndex}
use Rattle.thread.specs.declared.Links.{Links}
use Rattle.thread.specs.declared.QueueLinks.{QueueLinks}
use Rattle.thread.specs.declared.QueueMembership.{QueueMembership}
use Rattle.thread.specs.declared.ThreadRecord.{ThreadRecord}
use Rattle.thread.specs.TreeKey.{algorithm_key, tree_key, ready_index_key}
use Rattle.thread.specs.Records.{with_parameters, with_runtime, with_turn, with_links, with_left, with_right}
use Rattle.thread.specs.Records.{with_height}
use Rattle.thread.specs.Records.{with_queue_links, with_cpu}
use Rattle.codec.specs.Codec.{word, row_words, runtime_from, link_from, membership_from, parameters_of, runtime_of}
use Rattle.codec.specs.Codec.{links_of, queue_links_of, decoded, ready_turn_word, left_tag, left_word, right_tag}
use Rattle.codec.specs.Codec.{right_word}
use Rattle.codec.specs.Codec.{height_word, previous_tag, previous_word, next_tag, next_word, membership_tag}
use Rattle.codec.specs.Codec.{membership_first, membership_second, cpu_word}
use Rattle.policy_words.specs.PolicyWords.{policy_tag, fifo_priority, band_word, role_tag, weight_word}
use Rattle.policy_words.specs.PolicyWords.{quantum_word, backend_tag, budget_tag, budget_word, budget_period}
use Rattle.policy_words.specs.PolicyWords.{budget_burst}
use Rattle.policy_words.specs.PolicyWords.{runtime_tag, runtime_first, runtime_second, runtime_third, runtime_fourth}
pub use Rattle.policy_words.specs.ByWords.{by_words}

-- A row with a word as another list has it, and with the words of one part stored: of parameters, a runtime, tree
-- links, list links with the membership.
abbrev over : ℕ → List ℕ → List ℕ → List ℕ
over k a r = set r k (word a k)

abbrev parameters_stored : List ℕ → List ℕ → List ℕ
parameters_stored r a =
    over budget_burst a (over budget_period a
    (over budget_word a (over budget_tag a (over backend_tag a (over quantum_word a
    (over weight_word a (over role_tag a (over band_word a (over fifo_priority a (over policy_tag a r))))))))))

abbrev pub runtime_stored : List ℕ → List ℕ → List ℕ
runtime_stored r a =
    set (set (set (set (set r runtime_tag (word a 0)) runtime_first (word a 1)) runtime_second (word a 2))
    runtime_third (word a 3)) runtime_fourth (word a 4)

abbrev pub left_stored : List ℕ → List ℕ → List ℕ
left_stored r a = set (set r left_tag (word a 0)) left_word (word a 1)

abbrev pub right_stored : List ℕ → List ℕ → List ℕ
right_stored r a = set (set r right_tag (word a 0)) right_word (word a 1)

abbrev pub links_stored : List ℕ → List ℕ → List ℕ → ℕ → List ℕ
links_stored r a b height = set (right_stored (left_stored r a) b) height_word height

abbrev pub previous_stored : List ℕ → List ℕ → List ℕ
previous_stored r a = set (set r previous_tag (word a 0)) previous_word (word a 1)

abbrev pub next_stored : List ℕ → List ℕ → List ℕ
next_stored r a = set (set r next_tag (word a 0)) next_word (word a 1)

abbrev pub queue_links_stored : List ℕ → List ℕ → List ℕ → List ℕ → List ℕ
queue_links_stored r a b m =
    set (set (set (next_stored (previous_stored r a) b) membership_tag (word m 0)) membership_first (word m 1))
    membership_second (word m 2)

pub parameters_stored_lem : (r : List ℕ) (p : SchedulingParameters) (a : List ℕ)
    → length r ≡ row_words
    → parameters_of a ≡ p
    → decoded (parameters_stored r a) ≡ with_parameters p (decoded r)
unfolding decoded parameters_of runtime_of links_of queue_links_of
parameters_stored_lem r p a size e =
    by_words row_words (λ (r : List ℕ). decoded (parameters_stored r a) ≡ with_parameters p (decoded r))
    (λ x0 x1 x2 x3 x4 x5 x6 x7 x8 x9 x10 x11 x12 x13 x14 x15 x16 x17 x18 x19 x20 x21 x22 x23 x24 x25 x26 x27 x28 x29 x30
    x31. rw (sym e) refl)
    r size

pub runtime_stored_lem : (r : List ℕ) (x : PolicyRuntime) (a : List ℕ)
    → length r ≡ row_words
    → runtime_from (word a 0) (word a 1) (word a 2) (word a 3) (word a 4) ≡ x
    → decoded (runtime_stored r a) ≡ with_runtime x (decoded r)
unfolding decoded parameters_of runtime_of links_of queue_links_of
runtime_stored_lem r x a size e =
    by_words row_words (λ (r : List ℕ). decoded (runtime_stored r a) ≡ with_runtime x (decoded r))
    (λ x0 x1 x2 x3 x4 x5 x6 x7 x8 x9 x10 x11 x12 x13 x14 x15 x16 x17 x18 x19 x20 x21 x22 x23 x24 x25 x26 x27 x28 x29 x30
    x31. rw e)
    r size

pub turn_stored : (r : List ℕ) (n : ℕ)
    → length r ≡ row_words
    → decoded (set r ready_turn_word n) ≡ with_turn n (decoded r)
unfolding decoded parameters_of runtime_of links_of queue_links_of
turn_stored r n size =
    by_words row_words (λ (r : List ℕ). decoded (set r ready_turn_word n) ≡ with_turn n (decoded r))
    (λ x0 x1 x2 x3 x4 x5 x6 x7 x8 x9 x10 x11 x12 x13 x14 x15 x16 x17 x18 x19 x20 x21 x22 x23 x24 x25 x26 x27 x28 x29 x30
    x31. refl)
    r size

pub links_stored_lem : (r : List ℕ) (l : Links) (a b : List ℕ) (height : ℕ)
    → length r ≡ row_words
    → link_from (word a 0) (word a 1) ≡ l.left
    → link_from (word b 0) (word b 1) ≡ l.right
    → height % 256 ≡ l.height
    → decoded (links_stored r a b height) ≡ with_links l (decoded r)
unfolding decoded parameters_of runtime_of links_of queue_links_of
links_stored_lem r l a b height size e₁ e₂ e₃ =
    by_words row_words (λ (r : List ℕ). decoded (links_stored r a b height) ≡ with_links l (decoded r))
    (λ x0 x1 x2 x3 x4 x5 x6 x7 x8 x9 x10 x11 x12 x13 x14 x15 x16 x17 x18 x19 x20 x21 x22 x23 x24 x25 x26 x27 x28 x29 x30
    x31. rw (e₁, e₂, e₃))
    r size

pub left_stored_lem : (r : List ℕ) (l : Option ℕ) (a : List ℕ)
    → length r ≡ row_words
    → link_from (word a 0) (word a 1) ≡ l
    → decoded (left_stored r a) ≡ with_left l (decoded r)
unfolding decoded parameters_of runtime_of links_of queue_links_of
left_stored_lem r l a size e =
    by_words row_words (λ (r : List ℕ). decoded (left_stored r a) ≡ with_left l (decoded r))
    (λ x0 x1 x2 x3 x4 x5 x6 x7 x8 x9 x10 x11 x12 x13 x14 x15 x16 x17 x18 x19 x20 x21 x22 x23 x24 x25 x26 x27 x28 x29 x30
    x31. rw e)
    r size

pub right_stored_lem : (r : List ℕ) (l : Option ℕ) (a : List ℕ)
    → length r ≡ row_words
    → link_from (word a 0) (word a 1) ≡ l
    → decoded (right_stored r a) ≡ with_right l (decoded r)
unfolding decoded parameters_of runtime_of links_of queue_links_of
right_stored_lem r l a size e =
    by_words row_words (λ (r : List ℕ). decoded (right_stored r a) ≡ with_right l (decoded r))
    (λ x0 x1 x2 x3 x4 x5 x6 x7 x8 x9 x10 x11 x12 x13 x14 x15 x16 x17 x18 x19 x20 x21 x22 x23 x24 x25 x26 x27 x28 x29 x30
    x31. rw e)
    r size

pub height_stored_lem : (r : List ℕ) (n height : ℕ)
    → length r ≡ row_words
    → height % 256 ≡ n
    → decoded (set r height_word height) ≡ with_height n (decoded r)
unfolding decoded parameters_of runtime_of links_of queue_links_of
height_stored_lem r n height size e =
    by_words row_words (λ (r : List ℕ). decoded (set r height_word height) ≡ with_height n (decoded r))
    (λ x0 x1 x2 x3 x4 x5 x6 x7 x8 x9 x10 x11 x12 x13 x14 x15 x16 x17 x18 x19 x20 x21 x22 x23 x24 x25 x26 x27 x28 x29 x30
    x31. rw e)
    r size

pub queue_links_stored_lem : (r : List ℕ) (l : QueueLinks) (a b m : List ℕ)
    → length r ≡ row_words
    → link_from (word a 0) (word a 1) ≡ l.previous
    → link_from (word b 0) (word b 1) ≡ l.next
    → membership_from (word m 0) (word m 1) (word m 2) ≡ l.membership
    → decoded (queue_links_stored r a b m) ≡ with_queue_links l (decoded r)
unfolding decoded parameters_of runtime_of links_of queue_links_of
queue_links_stored_lem r l a b m size e₁ e₂ e₃ =
    by_words row_words (λ (r : List ℕ). decoded (queue_links_stored r a b m) ≡ with_queue_links l (decoded r))
    (λ x0 x1 x2 x3 x4 x5 x6 x7 x8 x9 x10 x11 x12 x13 x14 x15 x16 x17 x18 x19 x20 x21 x22 x23 x24 x25 x26 x27 x28 x29 x30
    x31. rw (e₁, e₂, e₃))
    r size

pub cpu_stored : (r : List ℕ) (c : CpuIndex) (n : ℕ)
    → length r ≡ row_words
    → n % 256 ≡ c.0
    → decoded (set r cpu_word n) ≡ with_cpu c (decoded r)
unfolding decoded parameters_of runtime_of links_of queue_links_of
cpu_stored r c n size e =
    by_words row_words (λ (r : List ℕ). decoded (set r cpu_word n) ≡ with_cpu c (decoded r))
    (λ x0 x1 x2 x3 x4 x5 x6 x7 x8 x9 x10 x11 x12 x13 x14 x15 x16 x17 x18 x19 x20 x21 x22 x23 x24 x25 x26 x27 x28 x29 x30
    x31. rw e)
    r size

-- The parts that the words of a row stand for make the row's.
pub links_read : (w : List ℕ) {left right : Option ℕ} {height : ℕ}
    → left ≡ link_from (word w left_tag) (word w left_word) → right ≡ link_from (word w right_tag) (word w right_word)
    → height ≡ word w height_word % 256
    → record { left = left; right = right; height = height } ≡ links_of w
unfolding links_of
links_read w e₁ e₂ e₃ = rw (e₁, e₂, e₃)

pub queue_links_read_lem : (w : List ℕ) {previous next : Option ℕ} {membership : QueueMembership}
    → previous ≡ link_from (word w previous_tag) (word w previous_word)
    → next ≡ link_from (word w next_tag) (word w next_word)
    → membership ≡ membership_from (word w membership_tag) (word w membership_first) (word w membership_second)
    → record { previous = previous; next = next; membership = membership } ≡ queue_links_of w
unfolding queue_links_of
queue_links_read_lem w e₁ e₂ e₃ = rw (e₁, e₂, e₃)

pub record_read : (w : List ℕ) {parameters : SchedulingParameters} {runtime : PolicyRuntime} {links : Links}
    {queue_links_read : QueueLinks} {cpu : ℕ}
    → parameters ≡ parameters_of w → runtime ≡ runtime_of w → links ≡ links_of w → queue_links_read ≡ queue_links_of w
    → cpu ≡ word w cpu_word % 256
    → record {
      parameters = parameters;
      runtime = runtime;
      ready_turn = word w ready_turn_word;
      ready_tree = links;
      queue_links = queue_links_read;
      cpu = record { 0 = cpu };
    }
    ≡ decoded w
unfolding decoded
record_read w e₁ e₂ e₃ e₄ e₅ = rw (e₁, e₂, e₃, e₄, e₅)

pub key_read : (w : List ℕ) (id : ℕ) {algorithm : Wide} {band : ℕ}
    → algorithm ≡ algorithm_key (parameters_of w) (runtime_of w) (word w ready_turn_word)
    → band ≡ word w band_word % 256
    → record { algorithm = algorithm; band = band; turn = word w ready_turn_word; id = id }
    ≡ ready_index_key (decoded w) id
unfolding decoded ready_index_key tree_key parameters_of
key_read w id e₁ e₂ = rw (e₁, e₂)

-- A row whose every part was stored stands for the record with those parts.
pub all_stored : (t : ThreadRecord) (w₀ w₁ w₂ w₃ w₄ w₅ w₆ : List ℕ)
    → decoded w₁ ≡ with_parameters t.parameters (decoded w₀) → decoded w₂ ≡ with_runtime t.runtime (decoded w₁)
    → decoded w₃ ≡ with_turn t.ready_turn (decoded w₂) → decoded w₄ ≡ with_links t.ready_tree (decoded w₃)
    → decoded w₅ ≡ with_queue_links t.queue_links (decoded w₄) → decoded w₆ ≡ with_cpu t.cpu (decoded w₅)
    → decoded w₆ ≡ t
all_stored t w₀ w₁ w₂ w₃ w₄ w₅ w₆ e₁ e₂ e₃ e₄ e₅ e₆ = rw (e₆, e₅, e₄, e₃, e₂, e₁)
