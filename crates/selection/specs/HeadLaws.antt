-- Laws by which the functions on heads meet the definitions: r is what the call gave, x what its contract says of it.
use Prim.Native.Nat.{ℕ, zero, suc, ◌+◌, ◌-◌, ◌<◌, ◌≤◌, ◌%◌}
use native.Mathlib.Omega.{arith}
use Rattle.std.specs.Prelude.{◌≡◌, Bool, false, eqb, length, get_or, set, drop, Option, Some, None, Result, Ok, Err}
use Rattle.std.proofs.Math.Path.{refl, sym, ap}
use Rattle.std.proofs.Common.{◌∙◌, take-suc-set}
use Rattle.std.proofs.Math.Bool.{true}
use mathlib.Core.List.{List, [], ◌∷◌, ◌++◌}
use Rattle.std.proofs.Math.ListN.{take}
use Rattle.refusal.specs.Answer.{Answer, value, refused, number_of, damaged, by_number, or_damaged, damage}
use Rattle.refusal.specs.declared.Refusal.{Refusal}
use Rattle.refusal.specs.Cases.{choose, given, if_equal}
use Rattle.arbitration.specs.declared.Candidate.{Candidate}
use Rattle.arbitration.specs.declared.CpuWindow.{CpuWindow}
use Rattle.arbitration.specs.declared.Demand.{Demand}
use Rattle.dispatch_keys.specs.declared.DispatchKey.{DispatchKey}
use Rattle.arbitration.specs.declared.DispatchMode.{DispatchMode}
use Rattle.thread.specs.declared.CpuIndex.{CpuIndex}
use Rattle.thread.specs.declared.QueueMembership.TheVariants as membership
use Rattle.thread.specs.declared.ThreadRecord.{ThreadRecord}
use Rattle.thread.specs.Membership.{on_link, on_membership, on_cpu, ready_cpu, is_ready_on}
use Rattle.codec.specs.Codec.{word, membership_from, queue_links_of, decoded, membership_tag, membership_first}
use Rattle.codec.specs.Codec.{membership_second}
use Rattle.rows.specs.Table.{Out, out, table}
use Rattle.lists.specs.Lists.{on_answer, on_out}
use Rattle.lists.specs.ListsLaws.{row_inside, row_outside}
use Rattle.ready_index.specs.LoopLaws.{whole, setting_out, onward}
use Rattle.demands.specs.declared.Gathered.{Gathered}
use Rattle.selection.specs.declared.ReadyThread.{ReadyThread}
use Rattle.demands.specs.Demands.{candidate_of}
use Rattle.renewal.specs.Renewal.{head_of, root_at}
use Rattle.renewal.specs.RootRows.{roots_of}
use Rattle.selection.specs.Heads.{on_ready, on_key_option, comes_before, lesser_ready, ready_with}
use Rattle.selection.specs.Steps.{head_refreshed, head_gathered}
use Rattle.selection.specs.HeadNumbers.{same_byte, HeadNumbers, gather_numbers, takes_over, ready_by, least_number}
use Rattle.queue.specs.RunQueue.{tree_count, last_tree}
use Rattle.refusal.specs.declared.Damaged.{Damaged}

-- By the least so far.
module _ {A : Type 0} {y : A} {x : Option ReadyThread} (a : A) (f : ReadyThread → A) where
  pub no_ready : x ≡ None → y ≡ a → y ≡ on_ready x a f
  unfolding on_ready
  no_ready m h = rw m h

  pub some_ready : {r : ReadyThread} → x ≡ Some r → y ≡ f r → y ≡ on_ready x a f
  unfolding on_ready
  some_ready m h = rw m h

-- By a key.
module _ {A : Type 0} {y : A} {r x : Option (DispatchKey × DispatchMode)} (a : A) (f : DispatchKey → DispatchMode → A)
  where
    pub no_key : r ≡ x → r ≡ None → y ≡ a → y ≡ on_key_option x a f
    unfolding on_key_option
    no_key e m h = rw (sym e ∙ m) h

    pub some_key : {k : DispatchKey} {mode : DispatchMode} → r ≡ x → r ≡ Some (k, mode) → y ≡ f k mode
        → y ≡ on_key_option x a f
    unfolding on_key_option
    some_key e m h = rw (sym e ∙ m) h

-- The lesser of two, by whether the second takes over.
module _ (best : Option ReadyThread) (r : ReadyThread) where
  lesser_by : lesser_ready best r ≡ choose (takes_over best r) (Some r) best
  unfolding lesser_ready takes_over on_ready choose
  lesser_by = go best
    where
      go : (best : Option ReadyThread)
          → on_ready best (Some r) (λ old. choose (comes_before r old) (Some r) (Some old))
          ≡ choose (on_ready best true (λ old. comes_before r old)) (Some r) best
      go None = refl
      go (Some old) = refl

  pub taken_over : {x : Bool} → x ≡ takes_over best r → x ≡ true → Some r ≡ lesser_ready best r
  unfolding choose
  taken_over e m = rw (lesser_by, sym e, m)

  pub kept_on : {x : Bool} → x ≡ takes_over best r → x ≡ false → best ≡ lesser_ready best r
  unfolding choose
  kept_on e m = rw (lesser_by, sym e, m)

-- The least so far with the record of a row.
module _ {y : Option ReadyThread} (rows : List (List ℕ)) (i : ℕ) (w : CpuWindow) (now : ℕ) (d : Demand)
    (best : Option ReadyThread) where
  pub ready_inside : {c : Candidate} → i < length rows → c ≡ candidate_of (decoded (get_or rows i []))
      → y ≡ ready_by c i w now d best → y ≡ ready_with (table rows) i w now d best
  unfolding ready_with ready_by candidate_of given
  ready_inside h e s = row_inside rows i best _ h (s ∙ ap (λ c. ready_by c i w now d best) e)

  pub ready_outside : length rows ≤ i → y ≡ best → y ≡ ready_with (table rows) i w now d best
  unfolding ready_with
  ready_outside h s = row_outside rows i best _ h s

pub ruleset heading = (no_ready, some_ready, no_key, some_key, taken_over, kept_on, ready_inside, ready_outside)

-- `is_ready_on` by the words of the membership.
unfoldable pub ready_row : List ℕ → CpuIndex → Bool
ready_row w c =
    if_equal (word w membership_tag) 0 false
    (if_equal (word w membership_tag) 1 (given (word w membership_first % 256) (λ n. same_byte n c.0))
    (if_equal (word w membership_tag) 2 (given (word w membership_first % 256) (λ n. same_byte n c.0))
    false))

pub ready_by_words : (w : List ℕ) (c : CpuIndex) {r : Bool} → r ≡ ready_row w c
    → r ≡ is_ready_on (decoded w).queue_links.membership c
unfolding is_ready_on ready_cpu decoded queue_links_of membership_from ready_row given same_byte if_equal choose
    on_membership on_cpu
ready_by_words w c e =
    e ∙ sym (go (eqb (word w membership_tag) 0) (eqb (word w membership_tag) 1) (eqb (word w membership_tag) 2)
    (eqb (word w membership_tag) 3))
  where
    go : (a b d f : Bool)
        → on_cpu (on_membership (choose a membership.None
        (choose b (membership.ReadyRealTime (record { 0 = word w membership_first % 256 })
        (word w membership_second % 256))
        (choose d (membership.ReadyFair (record { 0 = word w membership_first % 256 }))
        (choose f (membership.Waiting (word w membership_first)) membership.Terminated))))
        None (λ c p. Some c) (λ c. Some c) (λ q. None) None)
        false (λ d. choose (eqb d.0 c.0) true false)
        ≡ choose a false (choose b (choose (eqb (word w membership_first % 256) c.0) true false)
        (choose d (choose (eqb (word w membership_first % 256) c.0) true false) false))
    go true b d f = refl
    go false true d f = refl
    go false false true f = refl
    go false false false true = refl
    go false false false false = refl

-- The numbers that are held, with one more.
one_more : (l : List ℕ) (k id : ℕ) → k < length l → take (k + 1) (set l k id) ≡ take k l ++ (id ∷ [])
one_more l k id h = let one : k + 1 ≡ suc k = omega arith in rw one (take-suc-set l k id h)

-- The trees that are left go by the head of the next one.
module _ (t : List ThreadRecord) (rows : List (List ℕ)) (c : CpuIndex) (now : ℕ) (g : Gathered) where
  gather_step : (l : List ℕ) (n : ℕ) → 0 < n
      → gather_numbers n t (roots_of rows) c now l g
      ≡ on_answer (head_of t (root_at (roots_of rows) (tree_count - n)))
      (λ k. out (refused k) t)
      (λ head. on_link head
      (gather_numbers (n - 1) t (roots_of rows) c now l g)
      (λ id. on_out (head_refreshed t id c now)
      (λ a t₁. on_answer a
      (λ k. out (refused k) t₁)
      (λ u. gather_numbers (n - 1) t₁ (roots_of rows) c now (l ++ (id ∷ [])) (head_gathered t₁ id g)))))
  unfolding gather_numbers given
  gather_step l zero h = absurd (omega arith)
  gather_step l (suc n) h =
      let place : tree_count - suc n ≡ last_tree - n = omega arith in
      let one : suc n - 1 ≡ n = omega arith in
      rw (place, one) refl

  module _ {y : Out (Answer HeadNumbers)} {r : Result (Option ℕ) Damaged} {root : Option ℕ} (n : ℕ) where
    pub tree_damaged : (l : List ℕ) → 0 < n → root ≡ root_at (roots_of rows) (tree_count - n)
        → or_damaged r ≡ head_of t root → r ≡ (Err damage) → y ≡ out (refused damaged) t
        → y ≡ gather_numbers n t (roots_of rows) c now l g
    unfolding on_answer or_damaged
    tree_damaged l p o e m h = rw (gather_step l n p, sym o, sym e, m) h

    -- An empty tree is passed over.
    pub tree_empty : {k : Option ℕ} (l : List ℕ) → 0 < n → root ≡ root_at (roots_of rows) (tree_count - n)
        → or_damaged r ≡ head_of t root → r ≡ Ok k → k ≡ None
        → y ≡ gather_numbers (n - 1) t (roots_of rows) c now l g → y ≡ gather_numbers n t (roots_of rows) c now l g
    unfolding on_answer on_link or_damaged
    tree_empty l p o e m k h = rw (gather_step l n p, sym o, sym e, m, k) h

    module _ {k : Option ℕ} {id : ℕ} {v : Result (Unit {0}) Refusal} {t₁ : List ThreadRecord} where
      pub tree_refused : {why : Refusal} (l : List ℕ) → 0 < n → root ≡ root_at (roots_of rows) (tree_count - n)
          → or_damaged r ≡ head_of t root → r ≡ Ok k → k ≡ Some id
          → out (by_number v) t₁ ≡ head_refreshed t id c now → v ≡ Err why
          → y ≡ out (refused (number_of why)) t₁ → y ≡ gather_numbers n t (roots_of rows) c now l g
      unfolding on_answer on_link on_out or_damaged
      tree_refused l p o e m k f u h = rw (gather_step l n p, sym o, sym e, m, k, sym f, u) h

      pub tree_found_lem : {more : Gathered} {heads₁ : List ℕ} (heads : List ℕ) (count : ℕ) → 0 < n
          → root ≡ root_at (roots_of rows) (tree_count - n) → or_damaged r ≡ head_of t root → r ≡ Ok k
          → k ≡ Some id
          → out (by_number v) t₁ ≡ head_refreshed t id c now → v ≡ (Ok tt) → heads₁ ≡ set heads count id
          → count + n ≤ tree_count → length heads ≡ tree_count → more ≡ head_gathered t₁ id g
          → y ≡ gather_numbers (n - 1) t₁ (roots_of rows) c now (take (count + 1) heads₁) more
          → y ≡ gather_numbers n t (roots_of rows) c now (take count heads) g
      unfolding on_answer on_link on_out or_damaged
      tree_found_lem {more} {heads₁} heads count p o e m k f u s b z w h =
          let held : take (count + 1) heads₁ ≡ take count heads ++ (id ∷ []) = ap (take (count + 1)) s
          ∙ one_more heads count id (omega arith) in
          rw (gather_step (take count heads) n p, sym o, sym e, m, k, sym f, u, sym held, sym w) h

  pub trees_over : {y : Out (Answer HeadNumbers)} (n : ℕ) (l : List ℕ) → n ≤ 0
      → y ≡ out (value (record { numbers = l; found = g })) t → y ≡ gather_numbers n t (roots_of rows) c now l g
  unfolding gather_numbers
  trees_over zero l p h = h
  trees_over (suc n) l p h = absurd (omega arith)

pub gather_set_out : (t : List ThreadRecord) (rows : List (List ℕ)) (c : CpuIndex) (now : ℕ) (g : Gathered)
    (heads : List ℕ)
    → gather_numbers tree_count t (roots_of rows) c now (take 0 heads) g
    ≡ whole (gather_numbers tree_count t (roots_of rows) c now [] g)
gather_set_out t rows c now g heads = setting_out (gather_numbers tree_count t (roots_of rows) c now [] g)

pub ruleset gatherings = (onward, tree_damaged, tree_empty, tree_refused, tree_found_lem, trees_over)

-- The heads that are left go by the next one.
held_next : (l : List ℕ) (k count : ℕ) → k < count → count ≤ length l
    → drop k (take count l) ≡ get_or l k 0 ∷ drop (suc k) (take count l)
held_next [] k zero h b = absurd (omega arith)
held_next [] k (suc count) h b = absurd (omega arith)
held_next (x ∷ l) k zero h b = absurd (omega arith)
held_next (x ∷ l) zero (suc count) h b = refl
held_next (x ∷ l) (suc k) (suc count) h b = held_next l k count (omega arith) (omega arith)

next_held : (l : List ℕ) (k count : ℕ) → k < count → count ≤ length l
    → drop k (take count l) ≡ get_or l k 0 ∷ drop (k + 1) (take count l)
next_held l k count h b = let one : k + 1 ≡ suc k = omega arith in rw one (held_next l k count h b)

none_held : (l : List ℕ) (k count : ℕ) → count ≤ k → drop k (take count l) ≡ []
none_held [] zero zero h = refl
none_held [] zero (suc count) h = absurd (omega arith)
none_held [] (suc k) zero h = refl
none_held [] (suc k) (suc count) h = refl
none_held (x ∷ l) zero zero h = refl
none_held (x ∷ l) zero (suc count) h = absurd (omega arith)
none_held (x ∷ l) (suc k) zero h = refl
none_held (x ∷ l) (suc k) (suc count) h = none_held l k count (omega arith)

module _ (t : List ThreadRecord) (heads : List ℕ) (count now : ℕ) (d : Demand) (w : CpuWindow)
    (best : Option ReadyThread) where
  module _ {y : Option ReadyThread} (k : ℕ) where
    pub next_head : {next : Option ReadyThread} → k < count → count ≤ length heads
        → next ≡ ready_with t (get_or heads k 0) w now d best
        → y ≡ least_number t (drop (k + 1) (take count heads)) now d w next
        → y ≡ least_number t (drop k (take count heads)) now d w best
    unfolding least_number
    next_head p b e h =
        h ∙ ap (λ (x : Option ReadyThread). least_number t (drop (k + 1) (take count heads)) now d w x) e
        ∙ sym (ap (λ (l : List ℕ). least_number t l now d w best) (next_held heads k count p b))

    pub heads_over : count ≤ k → y ≡ best → y ≡ least_number t (drop k (take count heads)) now d w best
    unfolding least_number
    heads_over p h = h ∙ sym (ap (λ (l : List ℕ). least_number t l now d w best) (none_held heads k count p))

  pub least_set_out : least_number t (drop 0 (take count heads)) now d w best
      ≡ whole (least_number t (take count heads) now d w best)
  least_set_out = setting_out (least_number t (take count heads) now d w best)

pub ruleset leasts = (onward, next_head, heads_over)
