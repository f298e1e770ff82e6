-- A list of three threads, built by push from the empty list and computed step by step: no premise of the theorems is
-- empty.
use native.Mathlib.Omega.{arith}
use Rattle.std.specs.Prelude.{◌≡◌, List, [], ◌∷◌, Option, Some, None, ℕ}
use Rattle.std.proofs.Math.Path.{refl}
use Rattle.refusal.specs.Answer.{value}
use Rattle.refusal.specs.Cases.{choose, if_less, if_equal, given}
use Rattle.thread.specs.declared.QueueMembership.{QueueMembership}
use Rattle.thread.specs.declared.QueueMembership.TheVariants as membership
use Rattle.thread.specs.declared.QueueLinks.{QueueLinks}
use Rattle.thread.specs.declared.ThreadQueue.{ThreadQueue}
use Rattle.thread.specs.declared.ThreadRecord.{ThreadRecord}
use Rattle.thread.specs.Membership.{empty_queue, empty_queue_links, on_link, on_membership, on_cpu, is_none, points_to}
use Rattle.thread.specs.Membership.{is_unqueued, is_ready_fair, same_membership, ready_cpu}
use Rattle.thread.specs.Records.{with_queue_links, with_cpu}
use Rattle.rows.specs.Table.{out, record_of, changed, reading, storing, queue_links_at, record_at, set_queue_links}
use Rattle.rows.specs.TableCases.{on_queue_links, on_record}
use Rattle.lists.specs.Checks.{assigned_to, head_agrees, tail_agrees, ends_agree, preflight_insert, previous_valid}
use Rattle.lists.specs.Checks.{next_valid, validate_neighbors}
use Rattle.lists.specs.Lists.{on_answer, on_out, set_next, set_previous, commit_insert, commit_remove, append, prepend}
use Rattle.lists.specs.Lists.{push}
use Rattle.lists.specs.Lists.{push_front, update_previous_link, update_next_link, unlink, remove}
use Rattle.sound_lists.specs.Sound.{HoldsList, MayJoin}

-- The list of the fair threads of processor 3.
abbrev pub fair_list : QueueMembership
fair_list = membership.ReadyFair (record { 0 = 3 })

-- Any thread, of that processor and with these links.
abbrev pub thread_with : ThreadRecord → QueueLinks → ThreadRecord
thread_with r l = with_queue_links l (with_cpu (record { 0 = 3 }) r)

abbrev pub in_list : ThreadRecord → Option ℕ → Option ℕ → ThreadRecord
in_list r p n = thread_with r (record { previous = p; next = n; membership = fair_list })

abbrev pub in_none : ThreadRecord → ThreadRecord
in_none r = thread_with r empty_queue_links

abbrev pub of_three : ThreadQueue
of_three = record { head = Some 0; tail = Some 2; len = 3 }

abbrev pub table_of_three : ThreadRecord → List ThreadRecord
table_of_three r =
    in_list r None (Some 1) ∷ in_list r (Some 0) (Some 2) ∷ in_list r (Some 1) None ∷ []

module _ (r : ThreadRecord) where
  pub first_pushed : push (in_none r ∷ in_none r ∷ in_none r ∷ []) empty_queue 0 fair_list
      ≡ out (value (record { head = Some 0; tail = Some 0; len = 1 }))
      (in_list r None None ∷ in_none r ∷ in_none r ∷ [])
  unfolding push on_answer on_out append commit_insert set_next given preflight_insert assigned_to ends_agree
      head_agrees
      tail_agrees on_record on_queue_links record_at queue_links_at set_queue_links reading storing changed record_of
      choose
      if_less if_equal on_link on_membership on_cpu is_none is_unqueued is_ready_fair same_membership ready_cpu
  first_pushed = refl

  pub second_pushed : push (in_list r None None ∷ in_none r ∷ in_none r ∷ [])
      (record { head = Some 0; tail = Some 0; len = 1 }) 1 fair_list
      ≡ out (value (record { head = Some 0; tail = Some 1; len = 2 }))
      (in_list r None (Some 1) ∷ in_list r (Some 0) None ∷ in_none r ∷ [])
  unfolding push on_answer on_out append commit_insert set_next given preflight_insert assigned_to ends_agree
      head_agrees
      tail_agrees on_record on_queue_links record_at queue_links_at set_queue_links reading storing changed record_of
      choose
      if_less if_equal on_link on_membership on_cpu is_none is_unqueued is_ready_fair same_membership ready_cpu
  second_pushed = refl

  pub third_pushed : push (in_list r None (Some 1) ∷ in_list r (Some 0) None ∷ in_none r ∷ [])
      (record { head = Some 0; tail = Some 1; len = 2 }) 2 fair_list
      ≡ out (value of_three) (table_of_three r)
  unfolding push on_answer on_out append commit_insert set_next given preflight_insert assigned_to ends_agree
      head_agrees
      tail_agrees on_record on_queue_links record_at queue_links_at set_queue_links reading storing changed record_of
      choose
      if_less if_equal on_link on_membership on_cpu is_none is_unqueued is_ready_fair same_membership ready_cpu
  third_pushed = refl

  -- The third might join the list of two.
  pub third_may_join : MayJoin (in_list r None (Some 1) ∷ in_list r (Some 0) None ∷ in_none r ∷ [])
      (record { head = Some 0; tail = Some 1; len = 2 }) (0 ∷ 1 ∷ []) 2 fair_list
  unfolding record_of assigned_to on_cpu ready_cpu on_membership if_equal choose
  third_may_join = record { below = omega arith; outside = refl; unqueued = refl; assigned = refl; room = omega arith }

  pub three_held : HoldsList (table_of_three r) of_three (0 ∷ 1 ∷ 2 ∷ []) fair_list
  unfolding queue_links_at reading record_of if_less choose
  three_held = record {
    head = refl;
    tail = refl;
    len = refl;
    linked = record { here = refl; rest = record { here = refl; rest = record { here = refl; rest = tt } } };
    distinct = record { first = refl; rest = record { first = refl; rest = record { first = refl; rest = tt } } };
  }

  -- The one in the middle leaves.
  pub second_removed : remove (table_of_three r) of_three 1 fair_list
      ≡ out (value (record { head = Some 0; tail = Some 2; len = 2 }))
      (in_list r None (Some 2) ∷ in_none r ∷ in_list r (Some 0) None ∷ [])
  unfolding remove on_out unlink update_previous_link update_next_link set_next set_previous commit_remove
      validate_neighbors
      previous_valid next_valid points_to on_queue_links queue_links_at set_queue_links reading storing changed
      record_of choose
      if_less if_equal on_link on_membership is_ready_fair same_membership
  second_removed = refl

  -- And comes back as the first.
  pub second_pushed_front : push_front
      (in_list r None (Some 2) ∷ in_none r ∷ in_list r (Some 0) None ∷ [])
      (record { head = Some 0; tail = Some 2; len = 2 }) 1 fair_list
      ≡ out (value (record { head = Some 1; tail = Some 2; len = 3 }))
      (in_list r (Some 1) (Some 2) ∷ in_list r None (Some 0) ∷ in_list r
      (Some 0) None ∷ [])
  unfolding push_front on_answer on_out prepend commit_insert set_previous given preflight_insert assigned_to ends_agree
      head_agrees tail_agrees on_record on_queue_links record_at queue_links_at set_queue_links reading storing changed
      record_of
      choose if_less if_equal on_link on_membership on_cpu is_none is_unqueued is_ready_fair same_membership ready_cpu
  second_pushed_front = refl

  -- On a damaged table: a thread linked to itself passes the checks of remove, and the list's ends stay on it.
  pub self_linked_removed : remove (in_list r (Some 0) (Some 0) ∷ [])
      (record { head = Some 0; tail = Some 0; len = 1 }) 0 fair_list
      ≡ out (value (record { head = Some 0; tail = Some 0; len = 0 })) (in_none r ∷ [])
  unfolding remove on_out unlink update_previous_link update_next_link set_next set_previous commit_remove
      validate_neighbors
      previous_valid next_valid points_to on_queue_links queue_links_at set_queue_links reading storing changed
      record_of choose
      if_less if_equal on_link on_membership is_ready_fair same_membership
  self_linked_removed = refl
