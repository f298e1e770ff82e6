-- On any table, damaged ones too: where the checks pass, every number that is stored to afterwards lies inside the
-- table, so the source's halts after its checks are never reached.
use Prim.Native.Nat.{ℕ, ◌+◌, ◌<◌}
use Rattle.std.specs.Prelude.{◌≡◌, Bool, List, eqb, Option, Some, None, Result, Ok, Err}
use Rattle.std.proofs.Math.Path.{refl}
use Rattle.std.proofs.Common.{sym}
use Rattle.std.proofs.Math.Bool.{true, false}
use Rattle.std.proofs.Math.ListN.{length}
use Rattle.refusal.specs.Answer.{Answer, value, refused, damaged, bad_state, already}
use Rattle.refusal.specs.Cases.{never, choose, if_equal}
use Rattle.thread.specs.declared.QueueLinks.{QueueLinks}
use Rattle.thread.specs.declared.QueueMembership.{QueueMembership}
use Rattle.thread.specs.declared.ThreadQueue.{ThreadQueue}
use Rattle.thread.specs.declared.ThreadRecord.{ThreadRecord}
use Rattle.thread.specs.Membership.{on_link, is_none, is_unqueued, points_to, same_membership}
use Rattle.rows.specs.Table.{record_at, queue_links_at}
use Rattle.rows.specs.TableCases.{on_queue_links, on_record}
use Rattle.rows.specs.TableLaws.{queue_links_got_within, record_got_within}
use Rattle.lists.specs.Checks.{max_length, assigned_to, head_agrees, tail_agrees, ends_agree, preflight_insert}
use Rattle.lists.specs.Checks.{previous_valid, next_valid, validate_neighbors}
use Rattle.sound_lists.specs.MembersLaws.{not_both}
use Rattle.sound_lists.specs.Sound.{Inside}
use Rattle.refusal.specs.declared.Damaged.{Damaged}

-- A test that passes, taken apart.
both_hold : (b x : Bool) → choose b x false ≡ true → (b ≡ true) × (x ≡ true)
unfolding choose
both_hold true x e = (refl, e)
both_hold false x e = not_both false e refl

other_holds : (b x : Bool) → choose b false x ≡ true → x ≡ true
unfolding choose
other_holds true x e = not_both false e refl
other_holds false x e = e

value_not_refused : {A : Type 0} {B : Type 0} {a : A} {n : ℕ} → value a ≡ refused n → B
value_not_refused e = never cc

passed : (b : Bool) (x : Answer ℕ) (k n : ℕ) → choose b x (refused k) ≡ value n → x ≡ value n
unfolding choose
passed true x k n e = e
passed false x k n e = value_not_refused (sym e)

not_refused : (b : Bool) (x : Answer ℕ) (k n : ℕ) → choose b (refused k) x ≡ value n → x ≡ value n
unfolding choose
not_refused true x k n e = value_not_refused (sym e)
not_refused false x k n e = e

agreed : (b : Bool) (x : Answer ℕ) (k n : ℕ) → choose b x (refused k) ≡ value n → b ≡ true
unfolding choose
agreed true x k n e = refl
agreed false x k n e = value_not_refused (sym e)

no_number : {A : Type 0} {j : ℕ} → None ≡ Some j → A
no_number e = never cc

module _ (t : List ThreadRecord) where
  nothing_inside : Inside t None
  nothing_inside j e = no_number e

  number_inside : {i : ℕ} → i < length t → Inside t (Some i)
  number_inside {i} h j e = let z : j ≡ i = cc in rw z h

  -- A number whose links were read and passed a test is inside.
  read_inside : (j : ℕ) (f : QueueLinks → Bool) → on_queue_links (queue_links_at t j) false f ≡ true → j < length t
  unfolding on_queue_links
  read_inside j f e = go (queue_links_at t j) refl e
    where
      go : (x : Result QueueLinks Damaged) → queue_links_at t j ≡ x → on_queue_links x false f ≡ true → j < length t
      go (Ok l) k z = queue_links_got_within t j k
      go (Err _) k z = not_both false z refl

  head_inside : (j : ℕ) (m : QueueMembership) → head_agrees t j m ≡ true → j < length t
  unfolding head_agrees
  head_inside j m e = read_inside j (λ l. choose (same_membership l.membership m) (is_none l.previous) false) e

  tail_inside : (j : ℕ) (m : QueueMembership) → tail_agrees t j m ≡ true → j < length t
  unfolding tail_agrees
  tail_inside j m e = read_inside j (λ l. choose (same_membership l.membership m) (is_none l.next) false) e

  ends_inside : (h x : Option ℕ) (n : ℕ) (m : QueueMembership)
      → ends_agree t (record { head = h; tail = x; len = n }) m ≡ true → Inside t h × Inside t x
  unfolding ends_agree on_link if_equal
  ends_inside None None n m e = (nothing_inside, nothing_inside)
  ends_inside None (Some j) n m e = not_both false e refl
  ends_inside (Some i) None n m e = not_both false e refl
  ends_inside (Some i) (Some j) n m e =
      let b = both_hold (head_agrees t i m) (tail_agrees t j m)
      (other_holds (eqb n 0) (choose (head_agrees t i m) (tail_agrees t j m) false) e) in
      (number_inside (head_inside i m b.0), number_inside (tail_inside j m b.1))

  -- What `push` and `push_front` store to: the thread, and the list's end.
  pub insertion_inside : (q : ThreadQueue) (id : ℕ) (m : QueueMembership) (n : ℕ) → preflight_insert t q id m ≡ value n
      → (id < length t) × Inside t q.head × Inside t q.tail
  unfolding preflight_insert on_record if_equal
  insertion_inside q id m n e = go (record_at t id) refl e
    where
      go : (x : Result ThreadRecord Damaged) → record_at t id ≡ x
          → on_record x (refused damaged) (λ r. choose (is_unqueued r.queue_links.membership)
          (choose (assigned_to m r.cpu)
          (if_equal q.len max_length (refused damaged)
          (choose (ends_agree t q m) (value (q.len + 1)) (refused damaged))) (refused bad_state)) (refused already))
          ≡ value n
          → (id < length t) × Inside t q.head × Inside t q.tail
      go (Err _) k z = value_not_refused (sym z)
      go (Ok r) k z =
          let last : Answer ℕ = choose (ends_agree t q m) (value (q.len + 1)) (refused damaged) in
          let third : Answer ℕ = choose (eqb q.len max_length) (refused damaged) last in
          let second : Answer ℕ = choose (assigned_to m r.cpu) third (refused bad_state) in
          let d = not_refused (eqb q.len max_length) last 1 n
          (passed (assigned_to m r.cpu) third 2 n
          (passed (is_unqueued r.queue_links.membership) second 3 n z)) in
          let w = ends_inside q.head q.tail q.len m (agreed (ends_agree t q m) (value (q.len + 1)) 1 n d) in
          (record_got_within t id k, w.0, w.1)

  previous_inside : (q : ThreadQueue) (p n : Option ℕ) (m : QueueMembership) (id : ℕ)
      → previous_valid t q (record { previous = p; next = n; membership = m }) id ≡ true → Inside t p
  unfolding previous_valid on_link
  previous_inside q None n m id e = nothing_inside
  previous_inside q (Some i) n m id e = number_inside (read_inside i (λ k. points_to k.next id) e)

  next_inside : (q : ThreadQueue) (p n : Option ℕ) (m : QueueMembership) (id : ℕ)
      → next_valid t q (record { previous = p; next = n; membership = m }) id ≡ true → Inside t n
  unfolding next_valid on_link
  next_inside q p None m id e = nothing_inside
  next_inside q p (Some i) m id e = number_inside (read_inside i (λ k. points_to k.previous id) e)

  -- What `remove` stores to besides the thread, whose links were read: its two neighbours.
  pub removal_inside : (q : ThreadQueue) (l : QueueLinks) (id : ℕ) → validate_neighbors t q l id ≡ true
      → Inside t l.previous × Inside t l.next
  unfolding validate_neighbors
  removal_inside q l id e =
      let b = both_hold (previous_valid t q l id) (next_valid t q l id) e in (
        previous_inside q l.previous l.next l.membership id b.0,
        next_inside q l.previous l.next l.membership id b.1,
      )
