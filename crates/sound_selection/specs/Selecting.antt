-- Selection on a sound queue: for the processor of all its threads it is refused with nothing changed, or answered with
-- the queue sound after it; for any processor the queue is sound after it where it is answered.
use Rattle.std.specs.Prelude.{ℕ, zero, suc, ◌/◌, ◌≤◌, ◌≡◌, refl, Bool, true, false, List, length, get_or, replicate}
use Rattle.std.specs.Prelude.{Option, None, Result}
use Rattle.std.proofs.Common.{sym, ◌∙◌, subst, arith, le-ltb}
use Rattle.std.proofs.Math.Path.{ap}
use Rattle.refusal.specs.Answer.{Answer, value, refused, bad_config}
use Rattle.refusal.specs.Cases.{never, choose, given, if_less}
use Rattle.arbitration.specs.declared.CpuWindow.{CpuWindow}
use Rattle.window_config.specs.Config.{sound_config}
use Rattle.thread.specs.declared.CpuIndex.{CpuIndex}
use Rattle.thread.specs.declared.ThreadRecord.{ThreadRecord}
use Rattle.rows.specs.Table.{Out, out, record_of, max_records}
use Rattle.lists.specs.Lists.{on_answer, on_out}
use Rattle.queue.specs.RunQueue.{CpuRunQueue, tree_count}
use Rattle.selection.specs.declared.Selection.{Selection}
use Rattle.renewal.specs.Parts.{SelectionParts}
use Rattle.renewal.specs.Leaves.{on_leaves}
use Rattle.demands.specs.Demands.{of_current}
use Rattle.renewal.specs.Renewal.{renew}
use Rattle.selection.specs.Heads.{Heads, Chosen, no_heads, gather_heads, least_of}
use Rattle.selection.specs.Peek.{Peeked, peeked, chosen, peek_running, peek_parts, selection_parts}
use Rattle.selection.specs.Peek.{with_selection_parts}
use Rattle.selection.specs.Peek.{restored, peek_next}
use Rattle.sound_queue.specs.Sound.{Sound, OneProcessor}
use Rattle.sound_selection.specs.Changes.{bare_at, Left, FineSelection, unchanged, answered}
use Rattle.sound_selection.specs.ChangeLaws.{fresher_trans, fresher_cpu, shift_fresher}
use Rattle.sound_selection.specs.Renewing.{Turned, turned}
use Rattle.sound_selection.specs.HeadPass.{Gathers, Gathering, through, stopped, Blank, gathers}
use Rattle.arbitration.specs.declared.Candidate.{Candidate}

get_replicate : (n k : ℕ) → get_or {A = Option ℕ} (replicate n None) k None ≡ None
get_replicate zero k = refl
get_replicate (suc n) zero = refl
get_replicate (suc n) (suc k) = get_replicate n k

-- No head is noted at the start.
all_blank : Blank tree_count no_heads
all_blank = (refl, λ k m. get_replicate tree_count k)

-- Neither BadTable nor BadConfig nor Halted.
checks_passed : (t : List ThreadRecord) (p : SelectionParts) (cpu : CpuIndex) (now : ℕ) (w : CpuWindow)
    (current : Option Candidate) → length t ≤ max_records → sound_config w.config ≡ true → p.halted ≡ false
    → peek_parts t p cpu now w current ≡ peek_running t p cpu now w current
unfolding peek_parts if_less choose
checks_passed t p cpu now w current l e h = rw (le-ltb max_records (length t) l, e, h)

module _ {queued : ℕ → Bool} {q : CpuRunQueue} {t : List ThreadRecord} (S : Sound queued q t)
    (now : ℕ) (w : CpuWindow) (current : Option Candidate) where
  abbrev pub epoch : ℕ
  epoch = now / w.config.period_ns

  -- With a sound window the work on the parts is the answer.
  peek_by : (cpu : CpuIndex) (x : Peeked SelectionParts) (s : List ThreadRecord) → sound_config w.config ≡ true
      → peek_running t (selection_parts q) cpu now w current ≡ out x s
      → peek_next t q cpu now w current ≡ out (restored q x) s
  unfolding peek_next on_out selection_parts
  peek_by cpu x s e h =
      ap (λ (o : Out (Peeked SelectionParts)). on_out o (λ y t₁. out (restored q y) t₁))
      (checks_passed t (selection_parts q) cpu now w current S.forest.small e S.running ∙ h)

  -- The change of period, then the pass over the heads.
  abbrev pub Turn : Type 0
  Turn = Turned S now epoch (renew t (selection_parts q) now epoch)

  pub turn : Turn
  turn = turned S now epoch

  module _ (T : Turn) where
    abbrev pub after_turn : CpuRunQueue
    after_turn = with_selection_parts q T.parts

    -- A thread's processor is as it was handed in.
    cpu_after : (j : ℕ) → (record_of T.table j).cpu ≡ (record_of t j).cpu
    unfolding bare_at
    cpu_after j = fresher_cpu (shift_fresher (T.shift j))

    module _ (cpu : CpuIndex) where
      abbrev pub heads_of : Out (Answer Heads)
      heads_of = gather_heads tree_count T.table after_turn.indices cpu now no_heads (of_current current)

      abbrev pub Pass : Type 0
      Pass = Gathers T.sound now tree_count no_heads (of_current current) heads_of

      passing : Gathering T.sound cpu now tree_count no_heads (of_current current) heads_of
      passing =
          gathers cpu queued now after_turn tree_count (omega arith) T.table T.sound no_heads
          (of_current current) all_blank

      -- Where all threads are of this processor the pass is through.
      pub pass : OneProcessor cpu queued t → Pass
      pass one = go passing
        where
          go : Gathering T.sound cpu now tree_count no_heads (of_current current) heads_of → Pass
          go (through G) = G
          go (stopped i f d n s x) = absurd (d (ap (λ (c : CpuIndex). c.0) (cpu_after i) ∙ one i f))

      module _ (G : Pass) where
        -- The last pass, and what is answered.
        abbrev pub choice : Chosen
        choice = least_of tree_count G.table G.links now G.found.demand w None

        abbrev pub answer : Selection
        answer =
            record {
              ready = choice.ready;
              demand = G.found.demand;
              fair_min_pass = G.found.fair_min_pass;
            }

        running_is : peek_running t (selection_parts q) cpu now w current
            ≡ out (peeked (value answer) choice.window T.parts) G.table
        unfolding peek_running given on_out on_leaves on_answer chosen with_selection_parts
        running_is = rw (T.is, G.is)

        pub select_is : sound_config w.config ≡ true
            → peek_next t q cpu now w current ≡ out (peeked (value answer) choice.window after_turn) G.table
        unfolding restored
        select_is e = peek_by cpu _ G.table e running_is

        pub select_left : Left queued t now after_turn G.table
        select_left = record {
          sound = G.passed.sound;
          len = G.passed.len ∙ T.len;
          fresher = λ j. fresher_trans (shift_fresher (T.shift j)) (G.passed.fresher j);
          others = λ j e. G.passed.others j e ∙ T.others j e;
        }

  module _ (cpu : CpuIndex) where
    bad_window_lem : sound_config w.config ≡ false
        → peek_next t q cpu now w current ≡ out (peeked (refused bad_config) w q) t
    unfolding peek_next peek_parts if_less choose on_out restored selection_parts with_selection_parts
    bad_window_lem e = rw (le-ltb max_records (length t) S.forest.small, e)

    -- A pass that is refused refuses the selection.
    stopped_running : (T : Turn) (n : ℕ) (s : List ThreadRecord) → heads_of T cpu ≡ out (refused n) s
        → peek_running t (selection_parts q) cpu now w current ≡ out (peeked (refused n) w T.parts) s
    unfolding peek_running given on_out on_leaves on_answer with_selection_parts
    stopped_running T n s x = rw (T.is, x)

    stopped_is : (T : Turn) (n : ℕ) (s : List ThreadRecord) → heads_of T cpu ≡ out (refused n) s
        → sound_config w.config ≡ true
        → peek_next t q cpu now w current ≡ out (peeked (refused n) w (after_turn T)) s
    unfolding restored
    stopped_is T n s x e = peek_by cpu _ s e (stopped_running T n s x)

    fine_by : OneProcessor cpu queued t → (x : Bool) → sound_config w.config ≡ x
        → FineSelection queued q t now w (peek_next t q cpu now w current)
    fine_by one false e = unchanged 5 (bad_window_lem e)
    fine_by one true e =
        let T = turn in
        let G = pass T cpu one in
        answered (answer T cpu G) (choice T cpu G).window (after_turn T) G.table (select_is T cpu G e)
        (select_left T cpu G)

    -- A selection on a sound queue whose threads are all of the processor that it names never halts: it is refused with
    -- nothing changed, or answered with the queue sound after it.
    pub select_fine : OneProcessor cpu queued t → FineSelection queued q t now w (peek_next t q cpu now w current)
    select_fine one = fine_by one (sound_config w.config) refl

    module _ (a : Selection) (v : CpuWindow) (r : CpuRunQueue) (s : List ThreadRecord)
        (h : peek_next t q cpu now w current ≡ out (peeked (value a) v r) s) where
      sound_by : (T : Turn) → sound_config w.config ≡ true
          → Gathering T.sound cpu now tree_count no_heads (of_current current) (heads_of T cpu) → Left queued t now r s
      sound_by T e (through G) =
          let z : out (peeked (value (answer T cpu G)) (choice T cpu G).window (after_turn T)) G.table
          ≡ out (peeked (value a) v r) s = sym (select_is T cpu G e) ∙ h in
          let x : after_turn T ≡ r = cc in
          let y : G.table ≡ s = cc in
          subst (λ (u : List ThreadRecord). Left queued t now r u) y
          (subst (λ (p : CpuRunQueue). Left queued t now p G.table) x (select_left T cpu G))
      sound_by T e (stopped i f d n u x) =
          let z : out (peeked (refused n) w (after_turn T)) u ≡ out (peeked (value a) v r) s =
          sym (stopped_is T n u x e) ∙ h in
          never cc

      sound_if : (x : Bool) → sound_config w.config ≡ x → Left queued t now r s
      sound_if true e = sound_by turn e (passing turn cpu)
      sound_if false e =
          let z : out (peeked (refused bad_config) w q) t ≡ out (peeked (value a) v r) s = sym (bad_window_lem e) ∙ h in
          never cc

      -- Every accepted selection, whatever processor it names, leaves a sound queue with the same threads queued.
      pub select_sound : Left queued t now r s
      select_sound = sound_if (sound_config w.config) refl
