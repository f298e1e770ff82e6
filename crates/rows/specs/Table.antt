-- The table of records, read and changed by number. A number that is not below the record count is Damaged, and then
-- nothing changes.
use Rattle.std.specs.Prelude.{ℕ, List, [], map, length, get_or, set, Option, Result, Ok, Err}
use Rattle.refusal.specs.Answer.{damage}
use Rattle.refusal.specs.Cases.{if_less}
use Rattle.algorithms.specs.declared.PolicyRuntime.{PolicyRuntime}
use Rattle.thread.specs.declared.Links.{Links}
use Rattle.thread.specs.declared.QueueLinks.{QueueLinks}
use Rattle.thread.specs.declared.ThreadRecord.{ThreadRecord}
use Rattle.thread.specs.Records.{with_runtime, with_turn, with_links, with_left, with_right, with_height}
use Rattle.thread.specs.Records.{with_queue_links}
use Rattle.thread.specs.TreeKey.{ready_index_key}
use Rattle.codec.specs.Codec.{decoded}
use Rattle.thread.specs.declared.TreeKey.{TreeKey}
use Rattle.refusal.specs.declared.Damaged.{Damaged}

-- A record's place is 0 to 4,095.
abbrev pub max_records : ℕ
max_records = 4096

-- An answer, and the table as it is left.
pub data Out (A : Type 0) : Type 0 where
  out : A → List ThreadRecord → Out A

-- The table of the two.
abbrev pub answer : {A : Type 0} → Out A → A
answer (out a t) = a

abbrev pub after : {A : Type 0} → Out A → List ThreadRecord
after (out a t) = t

-- What rows stand for.
unfoldable pub table : List (List ℕ) → List ThreadRecord
table rows = map decoded rows

-- The record with this number. Outside the table it is the record of an empty row, which no definition below looks at.
unfoldable pub record_of : List ThreadRecord → ℕ → ThreadRecord
record_of t i = get_or t i (decoded [])

-- The table with the record of this number put through f.
unfoldable pub changed : List ThreadRecord → ℕ → (ThreadRecord → ThreadRecord) → List ThreadRecord
changed t i f = set t i (f (record_of t i))

-- What f gives of the record with this number, else `damaged`.
unfoldable pub reading : {A : Type 0} → List ThreadRecord → ℕ → (ThreadRecord → A) → A → A
reading t i f damaged = if_less i (length t) (f (record_of t i)) damaged

unfoldable pub storing : List ThreadRecord → ℕ → (ThreadRecord → ThreadRecord) → Out (Result (Unit {0}) Damaged)
storing t i f = if_less i (length t) (out (Ok tt) (changed t i f)) (out (Err damage) t)

unfoldable pub links_at : List ThreadRecord → ℕ → Result Links Damaged
links_at t i = reading t i (λ r. Ok r.ready_tree) (Err damage)

-- The key of the record with its number.
unfoldable pub key_at : List ThreadRecord → ℕ → Result TreeKey Damaged
key_at t i = reading t i (λ r. Ok (ready_index_key r i)) (Err damage)

unfoldable pub queue_links_at : List ThreadRecord → ℕ → Result QueueLinks Damaged
queue_links_at t i = reading t i (λ r. Ok r.queue_links) (Err damage)

unfoldable pub record_at : List ThreadRecord → ℕ → Result ThreadRecord Damaged
record_at t i = reading t i (λ r. Ok r) (Err damage)

unfoldable pub set_links : List ThreadRecord → ℕ → Links → Out (Result (Unit {0}) Damaged)
set_links t i l = storing t i (with_links l)

-- One of the tree links, or their height; the others stay.
unfoldable pub set_left : List ThreadRecord → ℕ → Option ℕ → Out (Result (Unit {0}) Damaged)
set_left t i l = storing t i (with_left l)

unfoldable pub set_right : List ThreadRecord → ℕ → Option ℕ → Out (Result (Unit {0}) Damaged)
set_right t i l = storing t i (with_right l)

unfoldable pub set_height : List ThreadRecord → ℕ → ℕ → Out (Result (Unit {0}) Damaged)
set_height t i n = storing t i (with_height n)

unfoldable pub set_queue_links : List ThreadRecord → ℕ → QueueLinks → Out (Result (Unit {0}) Damaged)
set_queue_links t i l = storing t i (with_queue_links l)

unfoldable pub set_runtime : List ThreadRecord → ℕ → PolicyRuntime → Out (Result (Unit {0}) Damaged)
set_runtime t i x = storing t i (with_runtime x)

unfoldable pub set_turn : List ThreadRecord → ℕ → ℕ → Out (Result (Unit {0}) Damaged)
set_turn t i n = storing t i (with_turn n)
