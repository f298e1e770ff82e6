-- Selection by the numbers of the heads is selection by the heads of the twelve trees.
use Prim.Native.Nat.{ℕ, zero, suc, ◌+◌, ◌-◌, ◌/◌, ◌<◌, ◌≤◌, min}
use native.Mathlib.Omega.{arith}
use Rattle.std.specs.Prelude.{◌≡◌, Bool, get_or, set, take, replicate, Option, Some, None, Result, Ok, Err}
use Rattle.std.proofs.Math.Path.{refl, sym, ap}
use Rattle.std.proofs.Common.{◌∙◌, length-take, le-ltb}
use Rattle.std.proofs.Math.Bool.{true, false}
use mathlib.Core.List.{List, [], ◌∷◌, ◌++◌}
use Rattle.std.proofs.Math.ListN.{length, drop}
use Rattle.refusal.specs.Answer.{Answer, value, refused, damaged}
use Rattle.refusal.specs.Cases.{choose, given}
use Rattle.time.specs.Time.{rises}
use Rattle.arbitration.specs.declared.Candidate.{Candidate}
use Rattle.arbitration.specs.declared.CpuWindow.{CpuWindow}
use Rattle.arbitration.specs.declared.Demand.{Demand}
use Rattle.arbitration.specs.Window.{refreshed}
use Rattle.thread.specs.declared.CpuIndex.{CpuIndex}
use Rattle.thread.specs.declared.ThreadRecord.{ThreadRecord}
use Rattle.thread.specs.Membership.{on_link, is_ready_on}
use Rattle.rows.specs.Table.{Out, out, record_at}
use Rattle.rows.specs.TableCases.{on_record}
use Rattle.lists.specs.Lists.{on_answer, on_out}
use Rattle.queue.specs.declared.Root.{Root}
use Rattle.demands.specs.declared.Gathered.{Gathered}
use Rattle.demands.specs.Demands.{candidate_of, gathered, of_current}
use Rattle.renewal.specs.Renewal.{head_of, refresh_record, root_at}
use Rattle.selection.specs.Heads.{head_at, Heads, gather_heads, ready_with, Chosen, least_of}
use Rattle.renewal.specs.Steps.{row_refreshed}
use Rattle.selection.specs.Steps.{head_refreshed, head_gathered, Looked, looked, looked_at}
use Rattle.selection.specs.HeadNumbers.{HeadNumbers, gather_numbers, least_number, least_numbers, chosen_number}
use Rattle.selection.specs.HeadNumbers.{looked_numbers}
use Rattle.renewal.specs.RenewalLaws.{refreshed_then}
use Rattle.queue.specs.RunQueue.{tree_count, last_tree}
use Rattle.selection.specs.declared.ReadyThread.{ReadyThread}
use Rattle.refusal.specs.declared.Damaged.{Damaged}

-- A window refreshed to now is refreshed once and for all.
pub refreshed_again : (w : CpuWindow) (now : ℕ) → refreshed (refreshed w now) now ≡ refreshed w now
unfolding refreshed given choose rises
refreshed_again w now = go (rises w.epoch (now / w.config.period_ns)) refl
  where
    go : (x : Bool) → rises w.epoch (now / w.config.period_ns) ≡ x
        → refreshed (refreshed w now) now ≡ refreshed w now
    go true e = rw (e, le-ltb (now / w.config.period_ns) (now / w.config.period_ns) (omega arith))
    go false e = rw (e, e)

-- So the heads after the first leave the window as it is.
module _ (t : List ThreadRecord) (now : ℕ) (d : Demand) where
  fresh_already : (l : List ℕ) (w : CpuWindow) (best : Option ReadyThread) → refreshed w now ≡ w
      → least_numbers t l now d w best ≡ record { window = w; ready = least_number t l now d w best }
  unfolding least_numbers least_number given
  fresh_already [] w best e = refl
  fresh_already (id ∷ l) w best e = rw e (fresh_already l w (ready_with t id w now d best) e)

  some_heads : (l : List ℕ) (w : CpuWindow) (best : Option ReadyThread) → 0 < length l
      → least_numbers t l now d w best
      ≡ record { window = refreshed w now; ready = least_number t l now d (refreshed w now) best }
  unfolding least_numbers least_number given
  some_heads [] w best h = absurd (omega arith)
  some_heads (id ∷ l) w best h =
      fresh_already l (refreshed w now) (ready_with t id (refreshed w now) now d best) (refreshed_again w now)

-- A head joins, or its refusal.
module _ {B : Type 0} (t : List ThreadRecord) (id : ℕ) (c : CpuIndex) (now : ℕ) (g : Gathered)
    (why : ℕ → List ThreadRecord → B) (f : Gathered → List ThreadRecord → B) where
  pushed : (x : Result ThreadRecord Damaged) (t₁ : List ThreadRecord)
      → on_record x (f g t₁) (λ s. f (gathered g (candidate_of s)) t₁)
      ≡ f (on_record x g (λ s. gathered g (candidate_of s))) t₁
  unfolding on_record
  pushed (Ok s) t₁ = refl
  pushed (Err _) t₁ = refl

  pushed_all : (x : Out (Answer (Unit {0})))
      → on_out x (λ a t₁. on_answer a (λ n. why n t₁)
      (λ u. on_record (record_at t₁ id) (f g t₁) (λ s. f (gathered g (candidate_of s)) t₁)))
      ≡ on_out x (λ a t₁. on_answer a (λ n. why n t₁) (λ u. f (head_gathered t₁ id g) t₁))
  unfolding on_out on_answer head_gathered
  pushed_all (out (value u) t₁) = pushed (record_at t₁ id) t₁
  pushed_all (out (refused n) t₁) = refl

  fused : (x : Out (Answer ThreadRecord))
      → on_out (on_out {B = Out (Answer Candidate)} x
      (λ a t₁. on_answer a (λ n. out (refused n) t₁) (λ s. out (value (candidate_of s)) t₁)))
      (λ a t₁. on_answer a (λ n. why n t₁) (λ found. f (gathered g found) t₁))
      ≡ on_out x (λ a t₁. on_answer a (λ n. why n t₁) (λ s. f (gathered g (candidate_of s)) t₁))
  unfolding on_out on_answer
  fused (out (value s) t₁) = refl
  fused (out (refused n) t₁) = refl

  head_joined : on_out (head_at t id c now) (λ a t₁. on_answer a (λ n. why n t₁) (λ found. f (gathered g found) t₁))
      ≡ on_out (head_refreshed t id c now) (λ a t₁. on_answer a (λ n. why n t₁) (λ u. f (head_gathered t₁ id g) t₁))
  unfolding head_at head_refreshed given on_record choose on_out on_answer
  head_joined = go (record_at t id) refl
    where
      ready_or_not : (r : ThreadRecord) → record_at t id ≡ Ok r → (b : Bool)
          → on_out (choose b
          (on_out {B = Out (Answer Candidate)} (refresh_record t id r now)
          (λ a t₁. on_answer a (λ n. out (refused n) t₁) (λ s. out (value (candidate_of s)) t₁)))
          (out (refused damaged) t))
          (λ a t₁. on_answer a (λ n. why n t₁) (λ found. f (gathered g found) t₁))
          ≡ on_out (choose b (row_refreshed t id r now) (out (refused damaged) t))
          (λ a t₁. on_answer a (λ n. why n t₁) (λ u. f (head_gathered t₁ id g) t₁))
      ready_or_not r e true =
          fused (refresh_record t id r now)
          ∙ refreshed_then t id now e why (λ t₁. f g t₁) (λ s t₁. f (gathered g (candidate_of s)) t₁)
          ∙ pushed_all (row_refreshed t id r now)
      ready_or_not r e false = refl

      go : (x : Result ThreadRecord Damaged) → record_at t id ≡ x
          → on_out (on_record x (out (refused damaged) t)
          (λ r. choose (is_ready_on r.queue_links.membership c)
          (on_out {B = Out (Answer Candidate)} (refresh_record t id r now)
          (λ a t₁. on_answer a (λ n. out (refused n) t₁) (λ s. out (value (candidate_of s)) t₁)))
          (out (refused damaged) t)))
          (λ a t₁. on_answer a (λ n. why n t₁) (λ found. f (gathered g found) t₁))
          ≡ on_out (on_record x (out (refused damaged) t)
          (λ r. choose (is_ready_on r.queue_links.membership c) (row_refreshed t id r now)
          (out (refused damaged) t)))
          (λ a t₁. on_answer a (λ n. why n t₁) (λ u. f (head_gathered t₁ id g) t₁))
      go (Ok r) e = ready_or_not r e (is_ready_on r.queue_links.membership c)
      go (Err _) e = refl

-- The numbers of the heads that are there.
some_of : List (Option ℕ) → List ℕ
some_of [] = []
some_of (None ∷ l) = some_of l
some_of (Some id ∷ l) = id ∷ some_of l

some_one_more : (l : List (Option ℕ)) (id : ℕ) → some_of (l ++ (Some id ∷ [])) ≡ some_of l ++ (id ∷ [])
unfolding some_of
some_one_more [] id = refl
some_one_more (None ∷ l) id = some_one_more l id
some_one_more (Some n ∷ l) id = ap (λ r. n ∷ r) (some_one_more l id)

some_no_more : (l : List (Option ℕ)) → some_of (l ++ (None ∷ [])) ≡ some_of l
unfolding some_of
some_no_more [] = refl
some_no_more (None ∷ l) = some_no_more l
some_no_more (Some n ∷ l) = ap (λ r. n ∷ r) (some_no_more l)

length_more : (l : List (Option ℕ)) (x : Option ℕ) → length (l ++ (x ∷ [])) ≡ suc (length l)
length_more [] x = refl
length_more (y ∷ l) x = ap suc (length_more l x)

-- The next place of those that were not looked at.
place_next : (l : List (Option ℕ)) (x : Option ℕ) (n : ℕ)
    → set (l ++ replicate (suc n) None) (length l) x ≡ (l ++ (x ∷ [])) ++ replicate n None
place_next [] x n = refl
place_next (y ∷ l) x n = ap (λ r. y ∷ r) (place_next l x n)

pass_over : (l : List (Option ℕ)) (n : ℕ)
    → l ++ replicate (suc n) None ≡ (l ++ (None ∷ [])) ++ replicate n None
pass_over [] n = refl
pass_over (y ∷ l) n = ap (λ r. y ∷ r) (pass_over l n)

no_more : (l : List (Option ℕ)) → l ++ [] ≡ l
no_more [] = refl
no_more (y ∷ l) = ap (λ r. y ∷ r) (no_more l)

-- The heads from a place on.
place_on : (l : List (Option ℕ)) (k : ℕ) → some_of (drop k l) ≡ some_of (get_or l k None ∷ drop (suc k) l)
unfolding some_of
place_on [] zero = refl
place_on [] (suc k) = refl
place_on (x ∷ l) zero = refl
place_on (x ∷ l) (suc k) = place_on l k

all_dropped : (l : List (Option ℕ)) (k : ℕ) → length l ≤ k → drop k l ≡ []
all_dropped [] zero h = refl
all_dropped [] (suc k) h = refl
all_dropped (x ∷ l) zero h = absurd (omega arith)
all_dropped (x ∷ l) (suc k) h = all_dropped l k (omega arith)

-- The least key of the heads that are left is that of their numbers.
module _ (t : List ThreadRecord) (l : List (Option ℕ)) (now : ℕ) (d : Demand) (size : length l ≡ tree_count) where
  abbrev Least : ℕ → Type 0
  Least n =
      (w : CpuWindow) (best : Option ReadyThread) → n ≤ tree_count
      → least_of n t l now d w best ≡ least_numbers t (some_of (drop (tree_count - n) l)) now d w best

  least_none : Least 0
  unfolding least_of least_numbers some_of
  least_none w best h = rw (all_dropped l tree_count (omega arith))

  least_next : (n : ℕ) → Least n → Least (suc n)
  unfolding least_of least_numbers given on_link some_of
  least_next n rest w best h =
      let place : tree_count - suc n ≡ last_tree - n = omega arith in
      let next : suc (last_tree - n) ≡ tree_count - n = omega arith in
      rw (place, place_on l (last_tree - n), next) (go (get_or l (last_tree - n) None))
    where
      go : (x : Option ℕ)
          → on_link x (least_of n t l now d w best)
          (λ id. least_of n t l now d (refreshed w now) (ready_with t id (refreshed w now) now d best))
          ≡ least_numbers t (some_of (x ∷ drop (tree_count - n) l)) now d w best
      go None = rest w best (omega arith)
      go (Some id) = rest (refreshed w now) (ready_with t id (refreshed w now) now d best) (omega arith)

  least_all : (n : ℕ) → Least n
  least_all zero = least_none
  least_all (suc n) = least_next n (least_all n)

module _ (roots : List Root) (c : CpuIndex) (now : ℕ) (w : CpuWindow) where
  -- What the heads give, and what their numbers give.
  finished : Out (Answer Heads) → Out Looked
  finished x =
      on_out x
      (λ a t₁. on_answer a
      (λ n. out (looked (refused n) w) t₁)
      (λ h. given (least_of tree_count t₁ h.heads now h.found.demand w None)
      (λ least. out (looked (value (record {
        ready = least.ready;
        demand = h.found.demand;
        fair_min_pass = h.found.fair_min_pass;
      })) least.window) t₁)))

  finished_numbers : Out (Answer HeadNumbers) → Out Looked
  finished_numbers x =
      on_out x (λ a t₁. on_answer a (λ n. out (looked (refused n) w) t₁)
      (λ h. given (chosen_number t₁ h.numbers now w h.found) (λ x. out x t₁)))

  abbrev Gathers : ℕ → Type 0
  Gathers n = (t : List ThreadRecord) (l : List (Option ℕ)) (g : Gathered) → length l + n ≡ tree_count
      → finished (gather_heads n t roots c now (l ++ replicate n None) g)
      ≡ finished_numbers (gather_numbers n t roots c now (some_of l) g)

  gathers_none : Gathers 0
  unfolding gather_heads gather_numbers finished finished_numbers chosen_number on_out on_answer given
  gathers_none t l g size =
      let same : least_of tree_count t (l ++ []) now g.demand w None
      ≡ least_numbers t (some_of l) now g.demand w None =
      ap (λ l. least_of tree_count t l now g.demand w None) (no_more l)
      ∙ least_all t l now g.demand (omega arith) tree_count w None (omega arith) in
      ap (λ (least : Chosen). out (looked
      (value (record { ready = least.ready; demand = g.demand; fair_min_pass = g.fair_min_pass }))
      least.window) t) same

  module _ (n : ℕ) (rest : Gathers n) (t : List ThreadRecord) (l : List (Option ℕ)) (g : Gathered)
      (size : length l + suc n ≡ tree_count) where
    abbrev heads : List (Option ℕ)
    heads = l ++ replicate (suc n) None

    after_none : finished (gather_heads n t roots c now heads g)
        ≡ finished_numbers (gather_numbers n t roots c now (some_of l) g)
    after_none =
        ap (λ h. finished (gather_heads n t roots c now h g)) (pass_over l n)
        ∙ rest t (l ++ (None ∷ [])) g (more_size None)
        ∙ ap (λ h. finished_numbers (gather_numbers n t roots c now h g)) (some_no_more l)
      where
        more_size : (x : Option ℕ) → length (l ++ (x ∷ [])) + n ≡ tree_count
        more_size x = let more : length (l ++ (x ∷ [])) ≡ suc (length l) = length_more l x in omega arith

    after_some : (k id : ℕ) → k ≡ length l → (t₁ : List ThreadRecord) (g₁ : Gathered)
        → finished (gather_heads n t₁ roots c now (set heads k (Some id)) g₁)
        ≡ finished_numbers (gather_numbers n t₁ roots c now (some_of l ++ (id ∷ [])) g₁)
    after_some k id e t₁ g₁ =
        ap (λ k. finished (gather_heads n t₁ roots c now (set heads k (Some id)) g₁)) e
        ∙ ap (λ h. finished (gather_heads n t₁ roots c now h g₁)) (place_next l (Some id) n)
        ∙ rest t₁ (l ++ (Some id ∷ [])) g₁
        (let more : length (l ++ (Some id ∷ [])) ≡ suc (length l) = length_more l (Some id) in omega arith)
        ∙ ap (λ h. finished_numbers (gather_numbers n t₁ roots c now h g₁)) (some_one_more l id)

    one_head : (k id : ℕ) → k ≡ length l
        → finished (on_out (head_at t id c now)
        (λ a t₁. on_answer a (λ m. out (refused m) t₁)
        (λ found. gather_heads n t₁ roots c now (set heads k (Some id)) (gathered g found))))
        ≡ finished_numbers (on_out (head_refreshed t id c now)
        (λ a t₁. on_answer a (λ m. out (refused m) t₁)
        (λ u. gather_numbers n t₁ roots c now (some_of l ++ (id ∷ [])) (head_gathered t₁ id g))))
    unfolding on_out on_answer finished finished_numbers
    one_head k id e =
        ap finished (head_joined t id c now g (λ m t₁. out (refused m) t₁)
        (λ more t₁. gather_heads n t₁ roots c now (set heads k (Some id)) more))
        ∙ go (head_refreshed t id c now)
      where
        go : (x : Out (Answer (Unit {0})))
            → finished (on_out x (λ a t₁. on_answer a (λ m. out (refused m) t₁)
            (λ u. gather_heads n t₁ roots c now (set heads k (Some id)) (head_gathered t₁ id g))))
            ≡ finished_numbers (on_out x (λ a t₁. on_answer a (λ m. out (refused m) t₁)
            (λ u. gather_numbers n t₁ roots c now (some_of l ++ (id ∷ [])) (head_gathered t₁ id g))))
        go (out (value u) t₁) = after_some k id e t₁ (head_gathered t₁ id g)
        go (out (refused m) t₁) = refl

    one_tree : (k : ℕ) → k ≡ length l → (a : Answer (Option ℕ))
        → finished (on_answer a
        (λ m. out (refused m) t)
        (λ head. on_link head
        (gather_heads n t roots c now heads g)
        (λ id. on_out (head_at t id c now)
        (λ a t₁. on_answer a (λ m. out (refused m) t₁)
        (λ found. gather_heads n t₁ roots c now (set heads k (Some id)) (gathered g found))))))
        ≡ finished_numbers (on_answer a
        (λ m. out (refused m) t)
        (λ head. on_link head
        (gather_numbers n t roots c now (some_of l) g)
        (λ id. on_out (head_refreshed t id c now)
        (λ a t₁. on_answer a (λ m. out (refused m) t₁)
        (λ u. gather_numbers n t₁ roots c now (some_of l ++ (id ∷ [])) (head_gathered t₁ id g))))))
    unfolding on_answer on_link finished finished_numbers on_out
    one_tree k e (refused m) = refl
    one_tree k e (value None) = after_none
    one_tree k e (value (Some id)) = one_head k id e

  gathers_next : (n : ℕ) → Gathers n → Gathers (suc n)
  unfolding gather_heads gather_numbers given
  gathers_next n rest t l g size = one_tree n rest t l g size (last_tree - n) (omega arith)
      (head_of t (root_at roots (last_tree - n)))

  gathers : (n : ℕ) → Gathers n
  gathers zero = gathers_none
  gathers (suc n) = gathers_next n (gathers n)

  pub looked_so : {y : Out Looked} (t : List ThreadRecord) (current : Option Candidate)
      → y ≡ looked_numbers t roots c now w current → y ≡ looked_at t roots c now w current
  unfolding looked_numbers looked_at given finished finished_numbers some_of
  looked_so t current h = h ∙ sym (gathers tree_count t [] (of_current current) refl)

-- As many are held as were counted.
held : (l : List ℕ) (n : ℕ) → n ≤ length l → length (take n l) ≡ n
held l n h = length-take n l ∙ (let least : min n (length l) ≡ n = omega arith in least)

-- The choice among the heads that were found.
module _ (t : List ThreadRecord) (heads : List ℕ) (count now : ℕ) (w : CpuWindow) (g : Gathered) where
  abbrev l : List ℕ
  l = take count heads

  chosen_of : (l : List ℕ) → length l ≡ 0
      → looked (value (record { ready = None; demand = g.demand; fair_min_pass = g.fair_min_pass })) w
      ≡ chosen_number t l now w g
  unfolding chosen_number given least_numbers
  chosen_of [] h = refl
  chosen_of (id ∷ l) h = absurd (omega arith)

  pub chosen_none : count ≡ 0 → looked
      (value (record { ready = None; demand = g.demand; fair_min_pass = g.fair_min_pass })) w
      ≡ chosen_number t (take count heads) now w g
  chosen_none h = chosen_of l (held heads count (omega arith) ∙ h)

  pub chosen_least : {fresh : CpuWindow} {best : Option ReadyThread} → (count ≡ 0 → ⊥) → count ≤ length heads
      → fresh ≡ refreshed w now → best ≡ least_number t (take count heads) now g.demand fresh None
      → looked (value (record { ready = best; demand = g.demand; fair_min_pass = g.fair_min_pass })) fresh
      ≡ chosen_number t (take count heads) now w g
  unfolding chosen_number given
  chosen_least n h e b =
      let some : 0 < length l = (let all : length l ≡ count = held heads count h in
      nonzero (length l) (λ z. n (sym all ∙ z))) in
      rw (b, e, some_heads t now g.demand l w None some)
    where
      nonzero : (n : ℕ) → (n ≡ 0 → ⊥) → 0 < n
      nonzero zero h = absurd (h refl)
      nonzero (suc n) h = omega arith

pub ruleset choosing = (chosen_none, chosen_least)
