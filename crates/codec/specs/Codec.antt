-- What a row of 32 words stands for: one record, whatever the words. A tag takes the first variant whose number it is
-- and else the last variant; a byte is its word's remainder by 256. Parameters and runtime stand in words 0 to 15
-- (crate policy_words). Words 30 and 31 are spare.
use Rattle.std.specs.Prelude.{ℕ, ◌%◌, List, Option, Some, None}
use Rattle.refusal.specs.Cases.{if_equal}
use Rattle.thread.specs.declared.Links.{Links}
use Rattle.thread.specs.declared.QueueMembership.{QueueMembership}
use Rattle.thread.specs.declared.QueueMembership.TheVariants as membership
use Rattle.thread.specs.declared.QueueLinks.{QueueLinks}
use Rattle.thread.specs.declared.ThreadRecord.{ThreadRecord}
pub use Rattle.policy_words.specs.PolicyWords.{word, row_words}
unfoldable pub use Rattle.policy_words.specs.PolicyWords.{
  policy_from,
  role_from,
  backend_from,
  budget_from,
  epoch_from,
  runtime_from,
  parameters_of,
  runtime_of,
}

-- Where the words of turn, tree links, list links, membership and processor stand in a thread's row.
abbrev pub ready_turn_word : ℕ
ready_turn_word = 16

abbrev pub left_tag : ℕ
left_tag = 17

abbrev pub left_word : ℕ
left_word = 18

abbrev pub right_tag : ℕ
right_tag = 19

abbrev pub right_word : ℕ
right_word = 20

abbrev pub height_word : ℕ
height_word = 21

abbrev pub previous_tag : ℕ
previous_tag = 22

abbrev pub previous_word : ℕ
previous_word = 23

abbrev pub next_tag : ℕ
next_tag = 24

abbrev pub next_word : ℕ
next_word = 25

abbrev pub membership_tag : ℕ
membership_tag = 26

abbrev pub membership_first : ℕ
membership_first = 27

abbrev pub membership_second : ℕ
membership_second = 28

abbrev pub cpu_word : ℕ
cpu_word = 29

-- 0 none, else the number.
unfoldable pub link_from : ℕ → ℕ → Option ℕ
link_from tag n = if_equal tag 0 None (Some n)

-- 0 None; 1 ReadyRealTime with processor and priority; 2 ReadyFair with the processor; 3 Waiting with the list; else
-- Terminated.
unfoldable pub membership_from : ℕ → ℕ → ℕ → QueueMembership
membership_from tag first second =
    if_equal tag 0 membership.None
    (if_equal tag 1 (membership.ReadyRealTime (record { 0 = first % 256 }) (second % 256))
    (if_equal tag 2 (membership.ReadyFair (record { 0 = first % 256 }))
    (if_equal tag 3 (membership.Waiting first) membership.Terminated)))

-- Words 17 to 21.
unfoldable pub links_of : List ℕ → Links
links_of w =
    record {
      left = link_from (word w left_tag) (word w left_word);
      right = link_from (word w right_tag) (word w right_word);
      height = word w height_word % 256;
    }

-- Words 22 to 28.
unfoldable pub queue_links_of : List ℕ → QueueLinks
queue_links_of w =
    record {
      previous = link_from (word w previous_tag) (word w previous_word);
      next = link_from (word w next_tag) (word w next_word);
      membership = membership_from (word w membership_tag) (word w membership_first) (word w membership_second);
    }

-- The record of a row; the turn is word 16, the processor word 29 (SPECIFICATION 5.5).
unfoldable pub decoded : List ℕ → ThreadRecord
decoded w =
    record {
      parameters = parameters_of w;
      runtime = runtime_of w;
      ready_turn = word w ready_turn_word;
      ready_tree = links_of w;
      queue_links = queue_links_of w;
      cpu = record { 0 = word w cpu_word % 256 };
    }
