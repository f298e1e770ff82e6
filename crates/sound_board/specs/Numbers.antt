-- No refusal has the number 0: so 0 says that a call was accepted.
use Rattle.std.specs.Prelude.{ℕ, Bool, ◌≢◌, List, ltb, eqb, Option, Some, None, Result, Ok, Err}
use Rattle.std.proofs.Math.Bool.{true, false}
use Rattle.std.proofs.Common.{arith}
use Rattle.refusal.specs.Answer.{Answer, value, refused}
use Rattle.refusal.specs.Cases.{choose, if_less, if_equal, given}
use Rattle.thread.specs.declared.CpuIndex.{CpuIndex}
use Rattle.thread.specs.declared.QueueMembership.{QueueMembership}
use Rattle.thread.specs.declared.QueueMembership.TheVariants as membership
use Rattle.thread.specs.declared.QueueLinks.{QueueLinks}
use Rattle.thread.specs.declared.ThreadQueue.{ThreadQueue}
use Rattle.thread.specs.declared.ThreadRecord.{ThreadRecord}
use Rattle.thread.specs.Filing.{on_index}
use Rattle.thread.specs.Membership.{on_membership}
use Rattle.rows.specs.Table.{Out, out, record_at, queue_links_at}
use Rattle.rows.specs.TableCases.{on_record, on_queue_links}
use Rattle.lists.specs.Checks.{preflight_insert}
use Rattle.lists.specs.Lists.{on_answer, on_out, push, push_front, append, prepend, unlink}
use Rattle.lists.specs.Lists as lists
use Rattle.ready_index.specs.Cases.{on_rooted}
use Rattle.ready_index.specs.Index as trees
use Rattle.queue_work.specs.declared.Parts.{Parts}
use Rattle.queue_work.specs.Work.{Work, done, turned_down, halts, counted_in, counted_out, total_in, total_out, push_at}
use Rattle.queue_work.specs.Work.{insert_work, remove_work}
use Rattle.queue.specs.RunQueue.{CpuRunQueue}
use Rattle.queue.specs.Queue.{Step, step, worked, on_contained, tree_with, judged, enqueue_call, remove_ready}
use Rattle.queue.specs.Queue.{remove_from}
use Rattle.queue.specs.Queue.{remove_call}
use Rattle.refusal.specs.declared.Damaged.{Damaged}

-- Accepted, or refused with a number.
abbrev pub Numbered : {A : Type 0} → Answer A → Type 0
Numbered (value a) = Unit {0}
Numbered (refused n) = n ≢ 0

abbrev pub NumberedOut : {A : Type 0} → Out (Answer A) → Type 0
NumberedOut (out a t) = Numbered a

abbrev pub NumberedStep : Out (Step (Unit {0})) → Type 0
NumberedStep (out (step a q) t) = Numbered a

abbrev NumberedWork : Out Work → Type 0
NumberedWork (out (done p) t) = Unit {0}
NumberedWork (out (turned_down n) t) = n ≢ 0
NumberedWork (out (halts p) t) = Unit {0}

-- What holds of both sides of a test holds of the answer.
module _ {A : Type 0} (P : A → Type 0) where
  by_test : (b : Bool) (x y : A) → P x → P y → P (choose b x y)
  unfolding choose
  by_test true x y h k = h
  by_test false x y h k = k

  if_less_lem : (n m : ℕ) (x y : A) → P x → P y → P (if_less n m x y)
  unfolding if_less
  if_less_lem n m x y h k = by_test (ltb n m) x y h k

  if_equal_lem : (n m : ℕ) (x y : A) → P x → P y → P (if_equal n m x y)
  unfolding if_equal
  if_equal_lem n m x y h k = by_test (eqb n m) x y h k

  by_record : (r : Result ThreadRecord Damaged) (a : A) (f : ThreadRecord → A) → P a → ((x : ThreadRecord) → P (f x))
      → P (on_record r a f)
  unfolding on_record
  by_record (Ok x) a f h k = k x
  by_record (Err _) a f h k = h

  by_links : (r : Result QueueLinks Damaged) (a : A) (f : QueueLinks → A) → P a → ((x : QueueLinks) → P (f x))
      → P (on_queue_links r a f)
  unfolding on_queue_links
  by_links (Ok x) a f h k = k x
  by_links (Err _) a f h k = h

  by_index : (i : Option ℕ) (a : A) (f : ℕ → A) → P a → ((k : ℕ) → P (f k)) → P (on_index i a f)
  unfolding on_index
  by_index None a f h k = h
  by_index (Some n) a f h k = k n

  by_contained : (c : Result Bool Damaged) (x y z : A) → P x → P y → P z → P (on_contained c x y z)
  unfolding on_contained
  by_contained (Ok true) x y z h k l = h
  by_contained (Ok false) x y z h k l = k
  by_contained (Err _) x y z h k l = l

  by_answer : {B : Type 0} (a : Answer B) (g : ℕ → A) (f : B → A) → Numbered a → ((n : ℕ) → n ≢ 0 → P (g n))
      → ((b : B) → P (f b)) → P (on_answer a g f)
  unfolding on_answer
  by_answer (value b) g f h k l = l b
  by_answer (refused n) g f h k l = k n h

  by_out : {B : Type 0} (o : Out (Answer B)) (f : Answer B → List ThreadRecord → A) → NumberedOut o
      → ((a : Answer B) (t : List ThreadRecord) → Numbered a → P (f a t)) → P (on_out o f)
  unfolding on_out
  by_out (out a t) f h k = k a t h

  by_root : (o : Out (Result (Option ℕ) Damaged)) (g : List ThreadRecord → A) (f : Option ℕ → List ThreadRecord → A)
      → ((t : List ThreadRecord) → P (g t)) → ((l : Option ℕ) (t : List ThreadRecord) → P (f l t)) → P (on_rooted o g f)
  unfolding on_rooted
  by_root (out (Ok l) t) g f h k = k l t
  by_root (out (Err _) t) g f h k = h t

  by_membership : (m : QueueMembership) (a b : A) (f : CpuIndex → ℕ → A) (g : CpuIndex → A) (h : ℕ → A) → P a
      → ((c : CpuIndex) (n : ℕ) → P (f c n)) → ((c : CpuIndex) → P (g c)) → ((n : ℕ) → P (h n)) → P b
      → P (on_membership m a f g h b)
  unfolding on_membership
  by_membership membership.None a b f g h x y z u v = x
  by_membership (membership.ReadyRealTime c n) a b f g h x y z u v = y c n
  by_membership (membership.ReadyFair c) a b f g h x y z u v = z c
  by_membership (membership.Waiting n) a b f g h x y z u v = u n
  by_membership membership.Terminated a b f g h x y z u v = v

-- Lists.
preflight_numbered : (t : List ThreadRecord) (q : ThreadQueue) (id : ℕ) (m : QueueMembership)
    → Numbered (preflight_insert t q id m)
unfolding preflight_insert
preflight_numbered t q id m =
    by_record (λ (a : Answer ℕ). Numbered a) (record_at t id) _ _ (λ z. omega arith)
    (λ r. by_test (λ (a : Answer ℕ). Numbered a) _ _ _
    (by_test (λ (a : Answer ℕ). Numbered a) _ _ _
    (if_equal_lem (λ (a : Answer ℕ). Numbered a) _ _ _ _ (λ z. omega arith)
    (by_test (λ (a : Answer ℕ). Numbered a) _ _ _ tt (λ z. omega arith)))
    (λ z. omega arith))
    (λ z. omega arith))

made_numbered : (o : Out ThreadQueue) → NumberedOut (on_out o (λ s t. out (value s) t))
unfolding on_out
made_numbered (out s t) = tt

push_numbered : (front : Bool) (t : List ThreadRecord) (q : ThreadQueue) (id : ℕ) (m : QueueMembership)
    → NumberedOut (push_at front t q id m)
unfolding push_at push push_front
push_numbered front t q id m =
    by_test (λ (o : Out (Answer ThreadQueue)). NumberedOut o) front _ _
    (by_answer (λ (o : Out (Answer ThreadQueue)). NumberedOut o) (preflight_insert t q id m) _ _
    (preflight_numbered t q id m) (λ n h. h) (λ n. made_numbered (prepend t q id m n)))
    (by_answer (λ (o : Out (Answer ThreadQueue)). NumberedOut o) (preflight_insert t q id m) _ _
    (preflight_numbered t q id m) (λ n h. h) (λ n. made_numbered (append t q id m n)))

unlist_numbered : (t : List ThreadRecord) (q : ThreadQueue) (id : ℕ) (m : QueueMembership)
    → NumberedOut (lists.remove t q id m)
unfolding lists.remove
unlist_numbered t q id m =
    by_links (λ (o : Out (Answer ThreadQueue)). NumberedOut o) (queue_links_at t id) _ _ (λ z. omega arith)
    (λ l. by_test (λ (o : Out (Answer ThreadQueue)). NumberedOut o) _ _ _
    (if_equal_lem (λ (o : Out (Answer ThreadQueue)). NumberedOut o) _ _ _ _ (λ z. omega arith)
    (by_test (λ (o : Out (Answer ThreadQueue)). NumberedOut o) _ _ _ (made_numbered _) (λ z. omega arith)))
    (λ z. omega arith))

-- The work on a queue's parts.
counted_in_lem : (b : Bool) (p : Parts) (t : List ThreadRecord) → NumberedWork (out (counted_in b p) t)
unfolding counted_in
counted_in_lem b p t =
    by_test (λ (w : Work). NumberedWork (out w t)) b _ _
    (if_equal_lem (λ (w : Work). NumberedWork (out w t)) _ _ _ _ tt tt) tt

counted_out_lem : (b : Bool) (p : Parts) (t : List ThreadRecord) → NumberedWork (out (counted_out b p) t)
unfolding counted_out
counted_out_lem b p t =
    by_test (λ (w : Work). NumberedWork (out w t)) b _ _
    (if_equal_lem (λ (w : Work). NumberedWork (out w t)) _ _ _ _ tt tt) tt

total_in_lem : (fifo : Bool) (n : ℕ) → Numbered (total_in fifo n)
unfolding total_in
total_in_lem fifo n =
    by_test (λ (a : Answer ℕ). Numbered a) fifo _ _
    (if_equal_lem (λ (a : Answer ℕ). Numbered a) _ _ _ _ (λ z. omega arith) tt) tt

total_out_lem : (fifo : Bool) (n : ℕ) → Numbered (total_out fifo n)
unfolding total_out
total_out_lem fifo n =
    by_test (λ (a : Answer ℕ). Numbered a) fifo _ _
    (if_equal_lem (λ (a : Answer ℕ). Numbered a) _ _ _ _ (λ z. omega arith) tt) tt

insert_numbered : (front fifo budgeted : Bool) (t : List ThreadRecord) (p : Parts) (id : ℕ) (m : QueueMembership)
    → NumberedWork (insert_work front fifo budgeted t p id m)
unfolding insert_work
insert_numbered front fifo budgeted t p id m =
    by_answer NumberedWork (total_in fifo p.realtime_len) _ _ (total_in_lem fifo p.realtime_len) (λ n h. h)
    (λ len. by_out NumberedWork (push_at front t p.list id m) _ (push_numbered front t p.list id m)
    (λ a t₁ h. by_answer NumberedWork a _ _ h (λ n k. k)
    (λ q. by_root NumberedWork (trees.insert t₁ p.root id) _ _ (λ t₂. tt)
    (λ root t₂. counted_in_lem budgeted _ t₂))))

remove_numbered : (fifo budgeted : Bool) (t : List ThreadRecord) (p : Parts) (id : ℕ) (m : QueueMembership)
    → NumberedWork (remove_work fifo budgeted t p id m)
unfolding remove_work
remove_numbered fifo budgeted t p id m =
    by_answer NumberedWork (total_out fifo p.realtime_len) _ _ (total_out_lem fifo p.realtime_len) (λ n h. h)
    (λ len. by_out NumberedWork (lists.remove t p.list id m) _ (unlist_numbered t p.list id m)
    (λ a t₁ h. by_answer NumberedWork a _ _ h (λ n k. k)
    (λ q. by_root NumberedWork (trees.remove t₁ p.root id) _ _ (λ t₂. tt)
    (λ root t₂. counted_out_lem budgeted _ t₂))))

-- The calls.
worked_numbered : (q : CpuRunQueue) (m : QueueMembership) (k : ℕ) (o : Out Work) → NumberedWork o
    → NumberedStep (worked q m k o)
unfolding worked
worked_numbered q m k (out (done p) t) h = tt
worked_numbered q m k (out (turned_down n) t) h = h
worked_numbered q m k (out (halts p) t) h = λ z. omega arith

judged_numbered : (t : List ThreadRecord) (q : CpuRunQueue) (id : ℕ) (f : ThreadRecord → ℕ → Out (Step (Unit {0})))
    → ((r : ThreadRecord) (k : ℕ) → NumberedStep (f r k)) → NumberedStep (judged t q id f)
unfolding judged
judged_numbered t q id f h =
    if_less_lem NumberedStep _ _ _ _ (λ z. omega arith)
    (by_test NumberedStep _ _ _ (λ z. omega arith)
    (by_record NumberedStep (record_at t id) _ _ (λ z. omega arith)
    (λ r. by_test NumberedStep _ _ _ (λ z. omega arith)
    (by_index NumberedStep _ _ _ (λ z. omega arith) (λ k. h r k)))))

-- An enqueue, at either end, and a removal, on any table and any queue.
pub enqueue_numbered : (front : Bool) (t : List ThreadRecord) (q : CpuRunQueue) (id : ℕ) (c : CpuIndex)
    → NumberedStep (enqueue_call front t q id c)
unfolding enqueue_call given
enqueue_numbered front t q id c =
    judged_numbered t q id _
    (λ r k. by_test NumberedStep _ _ _
    (if_equal_lem NumberedStep _ _ _ _ (worked_numbered q _ k _ (insert_numbered front _ _ t _ id _))
    (λ z. omega arith))
    (λ z. omega arith))

tree_numbered : (t : List ThreadRecord) (q : CpuRunQueue) (id : ℕ) (b : Bool) (k : ℕ) → Numbered (tree_with t q id b k)
unfolding tree_with
tree_numbered t q id b k =
    by_contained (λ (a : Answer ℕ). Numbered a) _ _ _ _ tt
    (by_test (λ (a : Answer ℕ). Numbered a) b _ _
    (by_contained (λ (a : Answer ℕ). Numbered a) _ _ _ _ tt (λ z. omega arith) (λ z. omega arith))
    (λ z. omega arith))
    (λ z. omega arith)

ready_numbered : (fifo : Bool) (t : List ThreadRecord) (q : CpuRunQueue) (id : ℕ) (c d : CpuIndex) (b : Bool) (k : ℕ)
    (m : QueueMembership) → NumberedStep (remove_ready fifo t q id c d b k m)
unfolding remove_ready
ready_numbered fifo t q id c d b k m =
    if_equal_lem NumberedStep _ _ _ _ (worked_numbered q m k _ (remove_numbered fifo b t _ id m)) (λ z. omega arith)

from_numbered : (t : List ThreadRecord) (q : CpuRunQueue) (id : ℕ) (c : CpuIndex) (r : ThreadRecord) (k : ℕ)
    → NumberedStep (remove_from t q id c r k)
unfolding remove_from given
from_numbered t q id c r k =
    by_membership NumberedStep r.queue_links.membership _ _ _ _ _ (λ z. omega arith)
    (λ d priority. ready_numbered true t q id c d _ k _) (λ d. ready_numbered false t q id c d _ k _)
    (λ w z. omega arith) (λ z. omega arith)

pub remove_call_numbered : (t : List ThreadRecord) (q : CpuRunQueue) (id : ℕ) (c : CpuIndex)
    → NumberedStep (remove_call t q id c)
unfolding remove_call
remove_call_numbered t q id c =
    judged_numbered t q id _
    (λ r k. by_answer NumberedStep (tree_with t q id _ k) _ _ (tree_numbered t q id _ k) (λ n h. h)
    (λ tree. from_numbered t q id c r tree))
