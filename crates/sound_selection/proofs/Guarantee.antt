-- The guarantee for one selection from any sound queue: under the premises it refuses nothing and names, of all queued
-- threads, the one with the least dispatch key.
use Rattle.std.specs.Prelude.{ℕ, ◌<◌, ◌≡◌, refl, Bool, true, false, ◌≢◌, List, length, get_or, Option, Some, None}
use Rattle.std.specs.Prelude.{Result, Ok}
use Rattle.refusal.specs.declared.Damaged.{Damaged}
use Rattle.std.proofs.Math.Path.{sym, ap, subst}
use Rattle.std.proofs.Common.{◌∙◌, arith, lt-ltb}
use Rattle.refusal.specs.Cases.{never, given}
use Rattle.std.specs.declared.cmp.Ordering.TheVariants.{Less}
use Rattle.policy.specs.declared.SchedulingParameters.{SchedulingParameters}
use Rattle.policy.specs.declared.SchedulingPolicy.TheVariants as policy
use Rattle.window_config.specs.declared.ArbitrationConfig.{ArbitrationConfig}
use Rattle.arbitration.specs.declared.Candidate.{Candidate}
use Rattle.arbitration.specs.declared.CpuWindow.{CpuWindow}
use Rattle.arbitration.specs.declared.Demand.{Demand}
use Rattle.dispatch_keys.specs.declared.DispatchKey.{DispatchKey}
use Rattle.arbitration.specs.declared.DispatchMode.{DispatchMode}
use Rattle.window_config.specs.Config.{accepts_budget}
use Rattle.arbitration.specs.Window.{refreshed}
use Rattle.arbitration.specs.ArbitrationLaws.{refreshed_config}
use Rattle.arbitration.specs.Key.{key_of}
use Rattle.thread.specs.declared.CpuIndex.{CpuIndex}
use Rattle.thread.specs.declared.ThreadRecord.{ThreadRecord}
use Rattle.thread.specs.declared.TreeKey.{TreeKey}
use Rattle.thread.specs.TreeKey.{compare_tree_keys, ready_index_key}
use Rattle.rows.specs.Table.{record_of, key_at}
use Rattle.rows.specs.TableLaws.{key_within}
use Rattle.sound_index.specs.Holds.{Precedes}
use Rattle.queue.specs.RunQueue.{CpuRunQueue, tree_count}
use Rattle.demands.specs.declared.Gathered.{Gathered}
use Rattle.selection.specs.declared.ReadyThread.{ReadyThread}
use Rattle.demands.specs.Demands.{candidate_of}
use Rattle.selection.specs.Peek.{peek_next}
use Rattle.sound_queue.specs.PlaceLaws.{same_or_not}
use Rattle.sound_queue.specs.Sound.{Sound, OneProcessor}
use Rattle.sound_queue.specs.SoundLaws.{queued_placed, queued_inside}
use Rattle.sound_selection.specs.Claim.{refreshed_to, candidate_now, gathered_now, key_now, Premises, Names, Answered}
use Rattle.sound_selection.specs.RefreshLaws.{refreshed_parameters, refreshed_key}
use Rattle.sound_selection.specs.Changes.{bare_at, Left}
use Rattle.sound_selection.specs.ChangeLaws.{bare_bad, bare_key, fresher_key, fresher_now, fresher_parameters}
use Rattle.sound_selection.specs.ChangeLaws.{shift_fresher}
use Rattle.sound_selection.specs.Within.{AtMost, Within, alone, pair_parts, Under, Every}
use Rattle.sound_selection.specs.WithinLaws.{at_most_trans, within_trans, within_both}
use Rattle.sound_selection.specs.PairLaws.{later}
use Rattle.sound_selection.specs.BelowLaws.{below_current, below_each, below_most}
use Rattle.sound_selection.specs.Classes.{Class, Alike, both_fifo, both_fair, both_budget}
use Rattle.sound_selection.specs.ClassLaws.{class_alike, alike_within, alike_before}
use Rattle.sound_selection.specs.HeadPass.{candidate_bare, candidate_same, Found, nobody_found, found_head}
use Rattle.sound_selection.specs.Choosing.{HeadKey, Least, least}
use Rattle.sound_selection.specs.Selecting.{Turn, turn, after_turn, Pass, pass, choice, answer, select_is}
use Rattle.sound_selection.specs.Selecting.{select_left}
use Rattle.sound_selection.proofs.Filing.{admitted_accepts, admitted_backend, parameters_after, classed}

-- A record's candidate does not look at tree links.
candidate_links : (t : List ThreadRecord) (j : ℕ) → candidate_of (record_of t j) ≡ candidate_of (bare_at t j)
unfolding candidate_of bare_at given
candidate_links t j = refl

module _ {queued : ℕ → Bool} {q : CpuRunQueue} {t : List ThreadRecord} (S : Sound queued q t)
    (now : ℕ) (w : CpuWindow) (current : Option Candidate)
    (T : Turn S now w current) (cpu : CpuIndex) (G : Pass S now w current T cpu) (P : Premises queued q t now w) where
  abbrev record_now : ℕ → ThreadRecord
  record_now j = refreshed_to now (record_of t j)

  abbrev window_now : CpuWindow
  window_now = refreshed w now

  abbrev demand : Demand
  demand = G.found.demand

  placed_back : (j : ℕ) → T.sound.place j < tree_count → queued j ≡ true
  placed_back j l = sym (T.sound.stands j) ∙ lt-ltb (T.sound.place j) tree_count l

  accepted : (j : ℕ) → queued j ≡ true → accepts_budget window_now.config (record_now j).parameters ≡ true
  accepted j e =
      ap (λ (c : ArbitrationConfig). accepts_budget c (record_now j).parameters) (refreshed_config w now)
      ∙ ap (accepts_budget w.config) (refreshed_parameters now (record_of t j))
      ∙ admitted_accepts w.config (record_of t j).parameters P.backend (P.admits j e)

  backend_of : (j : ℕ) → queued j ≡ true → (record_now j).parameters.policy ≡ policy.Fair
      → (record_now j).parameters.fair_backend ≡ P.backend
  backend_of j e f =
      ap (λ (p : SchedulingParameters). p.fair_backend) (refreshed_parameters now (record_of t j))
      ∙ admitted_backend w.config (record_of t j).parameters P.backend (P.admits j e)
      (ap (λ (p : SchedulingParameters). p.policy) (sym (refreshed_parameters now (record_of t j))) ∙ f)

  -- The tree key of a queued thread, before and after and refreshed.
  key_same : (j : ℕ) → queued j ≡ true → ready_index_key (record_of T.table j) j ≡ ready_index_key (record_now j) j
  key_same j e =
      let judged = (S.threads j e).judged in
      sym (bare_key T.table j) ∙ fresher_key j (bare_bad t j ∙ judged) (shift_fresher (T.shift j)) ∙ bare_key t j
      ∙ sym (refreshed_key now (record_of t j) judged j)

  key_now_lem : (j : ℕ) → queued j ≡ true → key_at T.table j ≡ Ok (ready_index_key (record_now j) j)
  key_now_lem j e = key_within T.table j (queued_inside T.sound j e) ∙ ap Ok (key_same j e)

  precedes_now : (i j : ℕ) → queued i ≡ true → queued j ≡ true → Precedes T.table i j
      → compare_tree_keys (ready_index_key (record_now i) i) (ready_index_key (record_now j) j) ≡ Less
  precedes_now i j e f p =
      let x : ◌≡◌ {A = Result TreeKey Damaged} (Ok p.key) (Ok (ready_index_key (record_now i) i)) = sym p.has_key
      ∙ key_now_lem i e in
      let y : ◌≡◌ {A = Result TreeKey Damaged} (Ok p.other) (Ok (ready_index_key (record_now j) j)) = sym p.has_other
      ∙ key_now_lem j f in
      let u : p.key ≡ ready_index_key (record_now i) i = cc in
      let v : p.other ≡ ready_index_key (record_now j) j = cc in
      subst (λ (k : TreeKey). compare_tree_keys (ready_index_key (record_now i) i) k ≡ Less) v
      (subst (λ (k : TreeKey). compare_tree_keys k p.other ≡ Less) u p.less)

  -- The head of a thread's tree.
  pub record Over (j : ℕ) : Type 0 where
    pub id : ℕ
    pub is : get_or G.links (T.sound.place j) None ≡ Some id
    pub is_queued : queued id ≡ true
    pub same_tree : T.sound.place id ≡ T.sound.place j
    pub precedes : j ≢ id → Precedes T.table id j
    pub asks : Within (alone (candidate_now t now id)) G.found

  over_by : (j : ℕ) → T.sound.place j < tree_count → (x : Option ℕ) → get_or G.links (T.sound.place j) None ≡ x
      → Found T.table G.table T.sound.place now G.found (T.sound.place j) x → Over j
  over_by j l None e (nobody_found n) = absurd (n j refl)
  over_by j l (Some x) e (found_head i p f o c) = record {
    id = i;
    is = e;
    is_queued = placed_back i (omega arith);
    same_tree = p;
    precedes = f j refl;
    asks =
        subst (λ (d : Candidate). Within (alone d) G.found)
        (candidate_same t T.table now i (shift_fresher (T.shift i))) c;
  }

  over : (j : ℕ) → queued j ≡ true → Over j
  over j e = over_by j (queued_placed T.sound j e) (get_or G.links (T.sound.place j) None) refl
      (G.each (T.sound.place j) (queued_placed T.sound j e) (omega arith))

  alike : (j : ℕ) → queued j ≡ true → (O : Over j) → Alike (record_now O.id) (record_now j)
  alike j e O = class_alike (T.sound.place j) (record_now O.id) (record_now j)
      (subst (λ k. Class k (record_now O.id)) O.same_tree (classed S now w current T O.id O.is_queued P))
      (classed S now w current T j e P)

  -- What a queued thread asks for is gathered at the heads.
  asks_found : (j : ℕ) → queued j ≡ true → Within (alone (candidate_now t now j)) G.found
  unfolding candidate_now
  asks_found j e =
      let O = over j e in
      same_or_not j O.id
      (λ z. subst (λ n. Within (alone (candidate_now t now n)) G.found) (sym z) O.asks)
      (λ z. within_trans (alike_within O.id j (record_now O.id) (record_now j) (alike j e O)
      (λ f. (P.backend, backend_of O.id O.is_queued (fair_too (alike j e O) f), backend_of j e f))
      (precedes_now O.id j O.is_queued e (O.precedes z))) O.asks)
    where
      fair_too : {a b : ThreadRecord} → Alike a b → b.parameters.policy ≡ policy.Fair
          → a.parameters.policy ≡ policy.Fair
      fair_too (both_fifo p q e f r) g = let z : policy.Fifo q ≡ policy.Fair = sym f ∙ g in never cc
      fair_too (both_fair e f r) g = e
      fair_too (both_budget e f r l) g = let z : policy.Budget ≡ policy.Fair = sym f ∙ g in never cc

  inside : (j : ℕ) → queued j ≡ true → j < length t
  inside j e = queued_inside S j e

  head_queued : (k i : ℕ) → k < tree_count → get_or G.links k None ≡ Some i
      → (queued i ≡ true) × (bare_at G.table i ≡ refreshed_to now (bare_at T.table i))
  head_queued k i l e = go (get_or G.links k None) e (G.each k l (omega arith))
    where
      go : (x : Option ℕ) → x ≡ Some i → Found T.table G.table T.sound.place now G.found k x
          → (queued i ≡ true) × (bare_at G.table i ≡ refreshed_to now (bare_at T.table i))
      go None z (nobody_found n) = never cc
      go (Some x) z (found_head m p f o c) =
          let y : m ≡ i = cc in
          subst (λ n. (queued n ≡ true) × (bare_at G.table n ≡ refreshed_to now (bare_at T.table n))) y
          (placed_back m (omega arith), o)

  -- The heads' demand and lowest pass are those of all queued threads.
  found_is : G.found ≡ gathered_now queued t now current
  found_is = within_both G.found (gathered_now queued t now current)
      (G.most (gathered_now queued t now current) (below_current queued t now current (length t))
      (λ k i l m e. let h = (head_queued k i l e).0 in
      subst (λ (d : Candidate). Within (alone d) (gathered_now queued t now current))
      (sym (candidate_same t T.table now i (shift_fresher (T.shift i))))
      (below_each queued t now current (length t) i (inside i h) h)))
      (below_most queued t now current (length t) G.found G.old (λ j l e. asks_found j e))

  -- A head's record in the table is the refreshed one.
  head_candidate : (k i : ℕ) → k < tree_count → get_or G.links k None ≡ Some i
      → candidate_of (record_of G.table i) ≡ candidate_now t now i
  head_candidate k i l e =
      candidate_links G.table i ∙ ap candidate_of ((head_queued k i l e).1 ∙ fresher_now (shift_fresher (T.shift i)))
      ∙ sym (candidate_bare t now i)

  head_key : (k i : ℕ) → k < tree_count → get_or G.links k None ≡ Some i
      → key_of window_now now (candidate_of (record_of G.table i)) demand ≡ key_now t w now demand i
  unfolding key_now
  head_key k i l e = ap (λ (c : Candidate). key_of window_now now c demand) (head_candidate k i l e)

  -- What is known of the thread that is named.
  abbrev Good : ReadyThread → Type 0
  Good r = (queued r.id.0 ≡ true) × (r.policy ≡ (record_of t r.id.0).parameters.policy)
      × ((m : DispatchMode) × (key_now t w now demand r.id.0 ≡ Some (r.key, m)))

  policy_after : (i : ℕ) → (record_of G.table i).parameters.policy ≡ (record_of t i).parameters.policy
  unfolding bare_at
  policy_after i =
      ap (λ (p : SchedulingParameters). p.policy)
      (fresher_parameters (G.passed.fresher i) ∙ parameters_after S now w current T i)

  chosen_least : Least G.table G.links now demand window_now Good tree_count w None
      (choice S now w current T cpu G)
  chosen_least = least G.table G.links now demand window_now Good tree_count (omega arith) w None refl
      (λ k i l m e. omega (arith, inside i (head_queued k i l e).0, G.passed.len, T.len))

  good : Every Good (choice S now w current T cpu G).ready
  good = chosen_least.every tt (λ i k h. (
    (head_queued h.tree i h.low h.is).0,
    policy_after i,
    (h.mode, sym (head_key h.tree i h.low h.is) ∙ h.has_key),
  ))

  under_trans : (r : Option ReadyThread) (a b : List ℕ) → AtMost a b → Under r a → Under r b
  under_trans None a b h u = absurd u
  under_trans (Some r) a b h u = at_most_trans u h

  -- The head of a thread's tree with its key.
  over_key : (j : ℕ) (O : Over j) (k : DispatchKey) (m : DispatchMode) → queued j ≡ true
      → key_now t w now demand O.id ≡ Some (k, m)
      → HeadKey G.table G.links now demand window_now tree_count O.id k
  over_key j O k m e h = record {
    tree = T.sound.place j;
    low = queued_placed T.sound j e;
    late = omega arith;
    is = O.is;
    inside = omega (arith, inside O.id O.is_queued, G.passed.len, T.len);
    mode = m;
    has_key = head_key (T.sound.place j) O.id (queued_placed T.sound j e) O.is ∙ h;
  }

  -- Every queued thread that has a key is at least the one that is named.
  under : (j : ℕ) (k : DispatchKey) (m : DispatchMode) → queued j ≡ true → key_now t w now demand j ≡ Some (k, m)
      → Under (choice S now w current T cpu G).ready (pair_parts k j)
  unfolding key_now candidate_now
  under j k m e h =
      let O = over j e in
      same_or_not j O.id
      (λ z. subst (λ n. Under (choice S now w current T cpu G).ready (pair_parts k n)) (sym z)
      (chosen_least.all O.id k (over_key j O k m e (subst (λ n. key_now t w now demand n ≡ Some (k, m)) z h))))
      (λ z.
      let B = alike_before window_now now demand O.id j (record_now O.id) (record_now j) k m (alike j e O)
      (accepted O.id O.is_queued) (accepted j e)
      (precedes_now O.id j O.is_queued e (O.precedes z)) h in
      under_trans (choice S now w current T cpu G).ready (pair_parts B.first O.id) (pair_parts k j) B.at_most
      (chosen_least.all O.id B.first (over_key j O B.first B.mode e B.has_key)))

  names_by : (r : Option ReadyThread) → Every Good r
      → ((j : ℕ) (k : DispatchKey) (m : DispatchMode) → queued j ≡ true → key_now t w now demand j ≡ Some (k, m)
      → Under r (pair_parts k j))
      → Names queued t w now demand r
  names_by None g u = λ j e. go j e (key_now t w now demand j) refl
    where
      go : (j : ℕ) → queued j ≡ true → (o : Option (DispatchKey × DispatchMode)) → key_now t w now demand j ≡ o
          → key_now t w now demand j ≡ None
      go j e None h = h
      go j e (Some (k, m)) h = absurd (u j k m e h)
  names_by (Some r) g u = record {
    is_queued = g.0;
    its_policy = g.1;
    its_key = g.2;
    least = λ j k m e d h. later r.key k r.id.0 j (λ z. d (sym z)) (u j k m e h);
  }

  no_heads_lem : ((j : ℕ) → queued j ≡ false) → (k : ℕ) → k < tree_count → get_or G.links k None ≡ None
  no_heads_lem n k l = go (get_or G.links k None) refl
    where
      go : (x : Option ℕ) → get_or G.links k None ≡ x → get_or G.links k None ≡ None
      go None e = e
      go (Some i) e = let z : true ≡ false = sym (head_queued k i l e).0 ∙ n i in never cc

  guaranteed : Answered queued t now w current (peek_next t q cpu now w current)
  guaranteed = record {
    selection = answer S now w current T cpu G;
    window = (choice S now w current T cpu G).window;
    queue = after_turn S now w current T;
    table = G.table;
    is = select_is S now w current T cpu G P.window;
    demand = ap (λ (g : Gathered). g.demand) found_is;
    lowest = ap (λ (g : Gathered). g.fair_min_pass) found_is;
    names = subst (λ (g : Gathered). Names queued t w now g.demand (choice S now w current T cpu G).ready) found_is
        (names_by (choice S now w current T cpu G).ready good under);
    window_fresh =
        λ j e. let O = over j e in chosen_least.fresh (T.sound.place j) O.id (queued_placed T.sound j e)
        (omega arith) O.is;
    window_kept = λ n. chosen_least.stale (λ k l m. no_heads_lem n k l);
  }

-- ONE SELECTION. From any sound queue whose threads are all of the processor that it names, under the premises, a
-- selection is answered: it names, of all queued threads, the one with the least dispatch key, the lower number on
-- equal keys, and none exactly when none has a key; keys and demand are those of every queued thread refreshed to now,
-- with the current thread's part in the demand. The queue is sound after it.
pub one_selection : {cpu : CpuIndex} {queued : ℕ → Bool} {q : CpuRunQueue} {t : List ThreadRecord}
    → Sound queued q t → OneProcessor cpu queued t → (now : ℕ) (w : CpuWindow) (current : Option Candidate)
    → Premises queued q t now w → (A : Answered queued t now w current (peek_next t q cpu now w current))
    × Left queued t now A.queue A.table
unfolding guaranteed
one_selection {cpu} S one now w current P =
    let T = turn S now w current in
    let G = pass S now w current T cpu one in
    (guaranteed S now w current T cpu G P, select_left S now w current T cpu G)
