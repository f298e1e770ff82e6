-- The pass over the heads of a sound queue: it finds the head of every tree, refreshes it, and gathers what the heads
-- ask for and no more; or it is refused at a head of another processor.
use Rattle.std.specs.Prelude.{ℕ, zero, suc, ◌+◌, ◌-◌, ◌≤◌, ◌<◌, ◌≡◌, Bool, ◌≢◌, List, length, get_or, set, eqb, Option}
use Rattle.std.specs.Prelude.{Some, None}
use Rattle.std.proofs.Math.Path.{refl}
use Rattle.std.proofs.Common.{sym, ap, ◌∙◌, subst, arith, length-set, get_or-set_same, get_or-set_other}
use Rattle.std.proofs.Math.Bool.{true, false}
use borrow.Author.Tests.{lt-ltb, eqb-true, eqb-false}
use Rattle.refusal.specs.Answer.{Answer, value, refused, damaged}
use Rattle.refusal.specs.Cases.{given}
use Rattle.thread.specs.declared.CpuIndex.{CpuIndex}
use Rattle.thread.specs.declared.ThreadRecord.{ThreadRecord}
use Rattle.thread.specs.Membership.{on_link, empty_links}
use Rattle.rows.specs.Table.{Out, out, record_of, key_at}
use Rattle.lists.specs.Lists.{on_answer, on_out}
use Rattle.sound_index.specs.Holds.{Precedes}
use Rattle.queue.specs.RunQueue.{CpuRunQueue, tree_count, last_tree}
use Rattle.demands.specs.declared.Gathered.{Gathered}
use Rattle.demands.specs.Demands.{candidate_of, gathered}
use Rattle.selection.specs.Heads.{head_at, Heads, gather_heads}
use Rattle.sound_queue.specs.PlaceLaws.{same_or_not}
use Rattle.sound_queue.specs.Sound.{Sound}
use Rattle.sound_selection.specs.Claim.{refreshed_to, candidate_now}
use Rattle.sound_selection.specs.RefreshLaws.{refreshed_links}
use Rattle.sound_selection.specs.Changes.{bare_at, Fresher, kept, fresh, Head, nobody_there, first_of_list, Passed}
use Rattle.sound_selection.specs.ChangeLaws.{fresher_now, fresher_trans, fresher_cpu, head_is}
use Rattle.sound_selection.specs.Within.{Within, alone}
use Rattle.sound_selection.specs.WithinLaws.{within_refl, within_trans, gathered_old, gathered_new, gathered_most}
use Rattle.sound_selection.specs.OneHead.{Headed, headed, not_headed}

-- Nothing done, and one after the other.
nothing_passed : {queued : ℕ → Bool} {q : CpuRunQueue} {t : List ThreadRecord}
    (S : Sound queued q t) (now : ℕ) → Passed S now t
nothing_passed S now =
    record {
      sound = S;
      places = λ j. refl;
      len = refl;
      fresher = λ j. kept refl;
      keys = λ j. refl;
      others = λ j e. refl;
    }

both_passed : {queued : ℕ → Bool} {q : CpuRunQueue} {t s u : List ThreadRecord} {now : ℕ}
    (S : Sound queued q t)
    (A : Passed S now s) → Passed A.sound now u → Passed S now u
both_passed S A B = record {
  sound = B.sound;
  places = λ j. B.places j ∙ A.places j;
  len = B.len ∙ A.len;
  fresher = λ j. fresher_trans (A.fresher j) (B.fresher j);
  keys = λ j. B.keys j ∙ A.keys j;
  others = λ j e. B.others j e ∙ A.others j e;
}

-- Links do not bear on a candidate.
pub candidate_bare : (t : List ThreadRecord) (now j : ℕ)
    → candidate_now t now j ≡ candidate_of (refreshed_to now (bare_at t j))
unfolding candidate_now bare_at candidate_of given
candidate_bare t now j = sym (ap candidate_of (refreshed_links now empty_links (record_of t j)))

-- Refreshed to now, a thread is the same candidate before and after.
pub candidate_same : (t s : List ThreadRecord) (now j : ℕ) → Fresher now (bare_at t j) (bare_at s j)
    → candidate_now s now j ≡ candidate_now t now j
candidate_same t s now j f = candidate_bare s now j ∙ ap candidate_of (fresher_now f) ∙ sym (candidate_bare t now j)

-- What the pass found at tree k, where t was the table before it, s is the one after it, and `found` what it gathered.
pub data Found (t s : List ThreadRecord) (place : ℕ → ℕ) (now : ℕ) (found : Gathered) (k : ℕ) : Option ℕ → Type 0 where
  nobody_found : ((j : ℕ) → place j ≢ k) → Found t s place now found k None
  found_head : (i : ℕ) → place i ≡ k → ((j : ℕ) → place j ≡ k → j ≢ i → Precedes t i j)
      → bare_at s i ≡ refreshed_to now (bare_at t i)
      → Within (alone (candidate_now t now i)) found → Found t s place now found k (Some i)

-- The pass over the last so many trees is done: of those each head is found, the others' places are as they were.
pub record Gathers {queued : ℕ → Bool} {q : CpuRunQueue} {t : List ThreadRecord}
    (S : Sound queued q t) (now left : ℕ) (heads : List (Option ℕ)) (g : Gathered)
    (o : Out (Answer Heads)) : Type 0 where
  pub table : List ThreadRecord
  pub links : List (Option ℕ)
  pub found : Gathered
  pub is : o ≡ out (value (record { heads = links; found = found })) table
  pub passed : Passed S now table
  pub before : (k : ℕ) → k + left < tree_count → get_or links k None ≡ get_or heads k None
  pub each : (k : ℕ) → k < tree_count → tree_count ≤ k + left
      → Found t table S.place now found k (get_or links k None)
  pub old : Within g found
  pub most : (z : Gathered) → Within g z
      → ((k i : ℕ) → k < tree_count → tree_count ≤ k + left → get_or links k None ≡ Some i
      → Within (alone (candidate_now t now i)) z) → Within found z

-- The pass is through, or it was refused at a queued thread that is not of this processor.
pub data Gathering {queued : ℕ → Bool} {q : CpuRunQueue} {t : List ThreadRecord} (S : Sound queued q t)
    (cpu : CpuIndex) (now left : ℕ) (heads : List (Option ℕ)) (g : Gathered) (o : Out (Answer Heads)) : Type 0 where
  through : Gathers S now left heads g o → Gathering S cpu now left heads g o
  stopped : (i : ℕ) → queued i ≡ true → (record_of t i).cpu.0 ≢ cpu.0 → (n : ℕ) (s : List ThreadRecord)
      → o ≡ out (refused n) s → Gathering S cpu now left heads g o

-- The trees not yet looked at have no head noted.
abbrev pub Blank : ℕ → List (Option ℕ) → Type 0
Blank left heads = (length heads ≡ tree_count)
    × ((k : ℕ) → tree_count ≤ k + left → get_or heads k None ≡ None)

precedes_same : (t s : List ThreadRecord) (i j : ℕ) → ((n : ℕ) → key_at s n ≡ key_at t n) → Precedes s i j
    → Precedes t i j
precedes_same t s i j h p =
    record {
      key = p.key;
      other = p.other;
      has_key = sym (h i) ∙ p.has_key;
      has_other = sym (h j) ∙ p.has_other;
      less = p.less;
    }

fresher_end : {now : ℕ} {a b : ThreadRecord} (c : ThreadRecord) → a ≡ refreshed_to now c
    → refreshed_to now a ≡ refreshed_to now c → Fresher now a b → b ≡ refreshed_to now c
fresher_end c z y (kept e) = e ∙ z
fresher_end c z y (fresh e) = e ∙ y

module _ (cpu : CpuIndex) (queued : ℕ → Bool) (now : ℕ) (q : CpuRunQueue) where
  abbrev pub GathersAll : ℕ → Type 0
  GathersAll left =
      (t : List ThreadRecord) (S : Sound queued q t) (heads : List (Option ℕ)) (g : Gathered) → Blank left heads
      → Gathering S cpu now left heads g (gather_heads left t q.indices cpu now heads g)

  gathers_zero : GathersAll zero
  unfolding gather_heads
  gathers_zero t S heads g b = through (record {
    table = t;
    links = heads;
    found = g;
    is = refl;
    passed = nothing_passed S now;
    before = λ k l. refl;
    each = λ k l m. absurd (omega arith);
    old = within_refl g;
    most = λ z p f. p;
  })

  module _ (left : ℕ) (low : left < tree_count) (t : List ThreadRecord) (S : Sound queued q t) (heads : List (Option ℕ))
      (g : Gathered) (b : Blank (suc left) heads) where
    -- An empty tree is passed over.
    gathers_none : ((j : ℕ) → S.place j ≢ last_tree - left) → (o : Out (Answer Heads)) → Gathers S now left heads g o
        → Gathers S now (suc left) heads g o
    gathers_none n o G = record {
      table = G.table;
      links = G.links;
      found = G.found;
      is = G.is;
      passed = G.passed;
      before = λ k l. G.before k (omega arith);
      each = λ k l m. same_or_not k (last_tree - left)
          (λ z. subst (Found t G.table S.place now G.found k) (sym (G.before k (omega arith) ∙ b.1 k m))
          (nobody_found (λ j. subst (λ x. S.place j ≢ x) (sym z) (n j))))
          (λ z. G.each k l (omega arith));
      old = G.old;
      most = λ z p f. G.most z p (λ k i l m e. f k i l (omega arith) e);
    }

    -- A head, and then the rest.
    module _ (i : ℕ) (e : S.place i ≡ last_tree - left)
        (h : (j : ℕ) → S.place j ≡ last_tree - left → j ≢ i → Precedes t i j)
        (H : Headed S cpu now i) where
      abbrev noted : List (Option ℕ)
      noted = set heads (last_tree - left) (Some i)

      abbrev more : Gathered
      more = gathered g (candidate_now t now i)

      still_blank : Blank left noted
      still_blank = (
        length-set heads (last_tree - left) (Some i) ∙ b.0,
        λ k m. get_or-set_other heads (last_tree - left) k (Some i) None (λ z. omega arith) ∙ b.1 k
            (omega arith),
      )

      module _ (o : Out (Answer Heads)) (G : Gathers H.passed.sound now left noted more o) where
        here : get_or G.links (last_tree - left) None ≡ Some i
        here =
            G.before (last_tree - left) (omega arith)
            ∙ get_or-set_same heads (last_tree - left) (Some i) None (omega (arith, b.0))

        candidate_kept : (j : ℕ) → candidate_now H.table now j ≡ candidate_now t now j
        candidate_kept j = candidate_same t H.table now j (H.passed.fresher j)

        own_end_lem : bare_at G.table i ≡ refreshed_to now (bare_at t i)
        own_end_lem = fresher_end (bare_at t i) H.own (fresher_now (H.passed.fresher i)) (G.passed.fresher i)

        found_same : (k : ℕ) (x : Option ℕ) → Found H.table G.table H.passed.sound.place now G.found k x
            → Found t G.table S.place now G.found k x
        found_same k None (nobody_found n) = nobody_found (λ j z. n j (H.passed.places j ∙ z))
        found_same k (Some j) (found_head m p f w c) = found_head m (sym (H.passed.places m) ∙ p)
            (λ n z d. precedes_same t H.table m n H.passed.keys (f n (H.passed.places n ∙ z) d))
            (w ∙ fresher_now (H.passed.fresher m))
            (subst (λ x. Within (alone x) G.found) (candidate_kept m) c)

        gathers_one : Gathers S now (suc left) heads g o
        gathers_one = record {
          table = G.table;
          links = G.links;
          found = G.found;
          is = G.is;
          passed = both_passed S H.passed G.passed;
          before =
              λ k l. G.before k (omega arith)
              ∙ get_or-set_other heads (last_tree - left) k (Some i) None (λ z. omega arith);
          each = λ k l m. same_or_not k (last_tree - left)
              (λ z. subst (λ n. Found t G.table S.place now G.found n (get_or G.links n None)) (sym z)
              (subst (Found t G.table S.place now G.found (last_tree - left)) (sym here)
              (found_head i e h own_end_lem (within_trans (gathered_new g (candidate_now t now i)) G.old))))
              (λ z. found_same k (get_or G.links k None) (G.each k l (omega arith)));
          old = within_trans (gathered_old g (candidate_now t now i)) G.old;
          most =
              λ z p f. G.most z (gathered_most g (candidate_now t now i) z p
              (f (last_tree - left) i (omega arith) (omega arith) here))
              (λ k n l m x. subst (λ c. Within (alone c) z) (sym (candidate_kept n)) (f k n l (omega arith) x));
        }

      -- A thread of another processor is so before the head was refreshed.
      gathers_more : (o : Out (Answer Heads)) → Gathering H.passed.sound cpu now left noted more o
          → Gathering S cpu now (suc left) heads g o
      unfolding bare_at
      gathers_more o (through G) = through (gathers_one o G)
      gathers_more o (stopped j f d n s x) =
          stopped j f (λ z. d (ap (λ (c : CpuIndex). c.0) (fresher_cpu (H.passed.fresher j)) ∙ z)) n s x

      gathers_then : Gathering S cpu now (suc left) heads g
          (gather_heads left H.table q.indices cpu now noted more)
          → Gathering S cpu now (suc left) heads g (on_out (head_at t i cpu now)
          (λ a t₁. on_answer a (λ n. out (refused n) t₁)
          (λ c. gather_heads left t₁ q.indices cpu now noted (gathered g c))))
      unfolding on_out on_answer
      gathers_then G = rw H.is G

    -- By whose the head is.
    gathers_head : GathersAll left → (i : ℕ) (e : S.place i ≡ last_tree - left)
        (h : (j : ℕ) → S.place j ≡ last_tree - left → j ≢ i → Precedes t i j)
        → queued i ≡ true → (x : Bool) → eqb (record_of t i).cpu.0 cpu.0 ≡ x
        → Gathering S cpu now (suc left) heads g (on_out (head_at t i cpu now)
        (λ a t₁. on_answer a (λ n. out (refused n) t₁)
        (λ c. gather_heads left t₁ q.indices cpu now (set heads (last_tree - left) (Some i)) (gathered g c))))
    unfolding on_out on_answer
    gathers_head ih i e h f true c =
        let H = headed S cpu now i f (eqb-true (record_of t i).cpu.0 cpu.0 c) in
        gathers_then i e h H (gathers_more i e h H
        (gather_heads left H.table q.indices cpu now (noted i e h H) (more i e h H))
        (ih H.table H.passed.sound (noted i e h H) (more i e h H) (still_blank i e h H)))
    gathers_head ih i e h f false c =
        let d = eqb-false (record_of t i).cpu.0 cpu.0 c in
        stopped i f d damaged t (rw (not_headed S cpu now i f d))

    gathers_by : GathersAll left → (x : Option ℕ) → Head t S.place (last_tree - left) x
        → Gathering S cpu now (suc left) heads g (on_link x (gather_heads left t q.indices cpu now heads g)
        (λ id. on_out (head_at t id cpu now)
        (λ a t₁. on_answer a (λ n. out (refused n) t₁)
        (λ c. gather_heads left t₁ q.indices cpu now (set heads (last_tree - left) (Some id)) (gathered g c)))))
    unfolding on_link
    gathers_by ih None (nobody_there n) = go (ih t S heads g (b.0, λ k m. b.1 k (omega arith)))
      where
        go : Gathering S cpu now left heads g (gather_heads left t q.indices cpu now heads g)
            → Gathering S cpu now (suc left) heads g (gather_heads left t q.indices cpu now heads g)
        go (through G) = through (gathers_none n (gather_heads left t q.indices cpu now heads g) G)
        go (stopped i f d m s x) = stopped i f d m s x
    gathers_by ih (Some x) (first_of_list i e h) =
        gathers_head ih i e h (sym (S.stands i) ∙ lt-ltb (S.place i) tree_count (omega arith))
        (eqb (record_of t i).cpu.0 cpu.0) refl

  gathers_suc : (left : ℕ) → left < tree_count → GathersAll left → GathersAll (suc left)
  unfolding gather_heads given on_answer
  gathers_suc left low ih t S heads g b =
      let x = head_is S.forest (last_tree - left) (omega arith) in
      rw x.1 (gathers_by left low t S heads g b ih x.0 x.2)

  -- All heads, and any number of the last ones.
  pub gathers : (left : ℕ) → left ≤ tree_count → GathersAll left
  gathers zero l = gathers_zero
  gathers (suc left) l = gathers_suc left (omega arith) (gathers left (omega arith))
