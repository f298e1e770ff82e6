-- Demand 3: one theorem over every list of calls from a fresh queue on any table.
use Rattle.std.specs.Prelude.{ℕ, ◌≤◌, ◌≡◌, refl, Bool, true, false, List, [], ◌∷◌, ltb, length, Option}
use Rattle.std.proofs.Common.{sym, ◌∙◌, arith, ltb-true, ltb-false}
use Rattle.std.proofs.Math.Path.{ap, subst}
use Rattle.std.proofs.Math.ListN.{get_or-eq_default}
use Rattle.refusal.specs.Answer.{value}
use Rattle.refusal.specs.Cases.{never}
use Rattle.policy.specs.declared.SchedulingParameters.{SchedulingParameters}
use Rattle.arbitration.specs.declared.CpuWindow.{CpuWindow}
use Rattle.thread.specs.declared.CpuIndex.{CpuIndex}
use Rattle.thread.specs.declared.ThreadRecord.{ThreadRecord}
use Rattle.codec.specs.Codec.{decoded}
use Rattle.rows.specs.Table.{Out, out, table, record_of, max_records}
use Rattle.queue.specs.RunQueue.{CpuRunQueue}
use Rattle.queue.specs.Queue.{Step, step, enqueue_call, remove_call}
use Rattle.selection.specs.Peek.{Peeked, peek_next}
use Rattle.sound_queue.specs.PlaceLaws.{same_or_not}
use Rattle.sound_queue.specs.Sound.{Sound, OneProcessor, including, excluding, Effect, enqueuing, removing, Fine}
use Rattle.sound_queue.specs.Sound.{PriorityFits}
use Rattle.sound_queue.specs.SoundLaws.{included_other, excluded, excluded_other}
use Rattle.sound_queue.specs.Outside.{same_record}
use Rattle.sound_queue.specs.LinksLaws.{same_length, same_parameters, same_cpu}
use Rattle.sound_queue.specs.Sound as sound
use Rattle.sound_queue.proofs.Calls.{new_sound, changes_sound, enqueue_fine, enqueue_own, remove_fine, rows_fit}
use Rattle.sound_selection.specs.Claim.{Call, enqueue_at, remove_at, select_at, change_to, State, Bytes, left_by}
use Rattle.sound_selection.specs.Claim.{left_by_selection, after, Allowed, after_all, AllAllowed, Stands, accepted}
use Rattle.sound_selection.specs.Claim.{unchanged, AllStand, fresh, PremisesIn, AnsweredIn}
use Rattle.sound_selection.specs.Changes.{bare_at, FineSelection}
use Rattle.sound_selection.specs.Changes as changes
use Rattle.sound_selection.specs.ChangeLaws.{fresher_parameters, fresher_cpu}
use Rattle.sound_selection.specs.Selecting.{select_fine}
use Rattle.sound_selection.proofs.Guarantee.{one_selection}
use Rattle.arbitration.specs.declared.Candidate.{Candidate}

-- The queue of a state is sound, with its queued threads, which are all of one processor, and its FIFO priorities are
-- bytes.
pub record SoundIn (cpu : CpuIndex) (s : State) : Type 0 where
  pub sound : Sound s.queued s.queue s.table
  pub one : OneProcessor cpu s.queued s.table
  pub bytes : Bytes s.table

-- Calls change no parameters.
same_bytes_lem : (t s : List ThreadRecord) → length s ≡ length t
    → ((j : ℕ) → (record_of s j).parameters ≡ (record_of t j).parameters) → Bytes t → Bytes s
same_bytes_lem t s e h b i l =
    subst (λ (p : SchedulingParameters). PriorityFits p.policy) (sym (h i)) (b i (omega arith))

-- Outside of the table too.
any_byte : (t : List ThreadRecord) → Bytes t → (i : ℕ) → PriorityFits (record_of t i).parameters.policy
unfolding record_of table
any_byte t b i = go (ltb i (length t)) refl
  where
    go : (x : Bool) → ltb i (length t) ≡ x → PriorityFits (record_of t i).parameters.policy
    go true e = b i (ltb-true i (length t) e)
    go false e = subst (λ (r : ThreadRecord). PriorityFits r.parameters.policy)
        (sym (get_or-eq_default t (decoded []) (ltb-false i (length t) e))) (rows_fit [] 0)

module _ (cpu : CpuIndex) (s : State) where
  -- What a call leaves that is fine, and that it stands.
  fine_sound : (o : Out (Step (Unit {0}))) (f : Effect) (S : SoundIn cpu s)
      → ((r : CpuRunQueue) (u : List ThreadRecord) → o ≡ out (step (value tt) r) u
      → OneProcessor cpu (f.after s.queued) s.table) → Fine S.sound f o
      → SoundIn cpu (left_by o s.queued (f.after s.queued))
  fine_sound o f S one (sound.unchanged n e) =
      subst (λ (x : Out (Step (Unit {0}))). SoundIn cpu (left_by x s.queued (f.after s.queued))) (sym e)
      (record { sound = S.sound; one = S.one; bytes = S.bytes })
  fine_sound o f S one (sound.made A) =
      subst (λ (x : Out (Step (Unit {0}))). SoundIn cpu (left_by x s.queued (f.after s.queued))) (sym A.is)
      (record {
        sound = A.kept.sound;
        one =
            λ j e. ap (λ (c : CpuIndex). c.0) (same_cpu s.table A.table A.kept.besides j)
            ∙ one A.queue A.table A.is j e;
        bytes = same_bytes_lem s.table A.table (same_length s.table A.table A.kept.besides)
            (same_parameters s.table A.table A.kept.besides) S.bytes;
      })

  selection_sound : (o : Out (Peeked CpuRunQueue)) (now : ℕ) (w : CpuWindow) → SoundIn cpu s
      → FineSelection s.queued s.queue s.table now w o → SoundIn cpu (left_by_selection o s.queued)
  unfolding bare_at
  selection_sound o now w S (changes.unchanged n e) =
      subst (λ (x : Out (Peeked CpuRunQueue)). SoundIn cpu (left_by_selection x s.queued)) (sym e)
      (record { sound = S.sound; one = S.one; bytes = S.bytes })
  selection_sound o now w S (changes.answered a v r u e L) =
      subst (λ (x : Out (Peeked CpuRunQueue)). SoundIn cpu (left_by_selection x s.queued)) (sym e)
      (record {
        sound = L.sound;
        one = λ j f. ap (λ (c : CpuIndex). c.0) (fresher_cpu (L.fresher j)) ∙ S.one j f;
        bytes = same_bytes_lem s.table u L.len (λ j. fresher_parameters (L.fresher j))
            S.bytes;
      })

  -- Who is queued after an enqueue by this processor, or after a removal, is of this processor.
  enqueue_one : (S : SoundIn cpu s) (front : Bool) (i : ℕ) (r : CpuRunQueue) (u : List ThreadRecord)
      → enqueue_call front s.table s.queue i cpu ≡ out (step (value tt) r) u
      → OneProcessor cpu (including i s.queued) s.table
  enqueue_one S front i r u e j h = same_or_not j i
      (λ z. rw z (enqueue_own S.sound cpu i front r u e))
      (λ z. S.one j (sym (included_other i s.queued j z) ∙ h))

  remove_one : SoundIn cpu s → (i : ℕ) → OneProcessor cpu (excluding i s.queued) s.table
  remove_one S i j h = same_or_not j i
      (λ z. let w : false ≡ true = sym (excluded i s.queued) ∙ ap (excluding i s.queued) (sym z) ∙ h in never cc)
      (λ z. S.one j (sym (excluded_other i s.queued j z) ∙ h))

  -- Every call leaves a sound queue.
  call_sound : (c : Call) → SoundIn cpu s → Allowed c s → SoundIn cpu (after cpu c s)
  unfolding after
  call_sound (enqueue_at front i) S a =
      fine_sound (enqueue_call front s.table s.queue i cpu) (enqueuing front s.table i) S
      (enqueue_one S front i) (enqueue_fine S.sound cpu i front (any_byte s.table S.bytes i))
  call_sound (remove_at i) S a =
      fine_sound (remove_call s.table s.queue i cpu) (removing i) S (λ r u e. remove_one S i)
      (remove_fine S.sound cpu i)
  call_sound (select_at now w current) S a =
      selection_sound (peek_next s.table s.queue cpu now w current) now w S
      (select_fine S.sound now w current cpu S.one)
  call_sound (change_to t) S a = record {
    sound = changes_sound S.sound t a.0 a.1;
    one = λ j e. ap (λ (r : ThreadRecord). r.cpu.0) (same_record S.sound t a.0 a.1 j e) ∙ S.one j e;
    bytes = a.2;
  }

  enqueue_stands : (S : SoundIn cpu s) (front : Bool) (i : ℕ)
      → Fine S.sound (enqueuing front s.table i) (enqueue_call front s.table s.queue i cpu)
      → Stands cpu (enqueue_at front i) s
  unfolding after
  enqueue_stands S front i (sound.unchanged n e) =
      unchanged (ap (λ (x : Out (Step (Unit {0}))). left_by x s.queued (including i s.queued)) e)
  enqueue_stands S front i (sound.made A) = accepted (A.queue, A.table, A.is)

  remove_stands : (S : SoundIn cpu s) (i : ℕ)
      → Fine S.sound (removing i) (remove_call s.table s.queue i cpu) → Stands cpu (remove_at i) s
  unfolding after
  remove_stands S i (sound.unchanged n e) =
      unchanged (ap (λ (x : Out (Step (Unit {0}))). left_by x s.queued (excluding i s.queued)) e)
  remove_stands S i (sound.made A) = accepted (A.queue, A.table, A.is)

  select_stands : (now : ℕ) (w : CpuWindow) (current : Option Candidate)
      → FineSelection s.queued s.queue s.table now w (peek_next s.table s.queue cpu now w current)
      → Stands cpu (select_at now w current) s
  unfolding after
  select_stands now w current (changes.unchanged n e) =
      unchanged (ap (λ (x : Out (Peeked CpuRunQueue)). left_by_selection x s.queued) e)
  select_stands now w current (changes.answered a v r u e L) = accepted (a, v, r, u, e)

  call_stands : (c : Call) → SoundIn cpu s → Allowed c s → Stands cpu c s
  call_stands (enqueue_at front i) S a =
      enqueue_stands S front i (enqueue_fine S.sound cpu i front (any_byte s.table S.bytes i))
  call_stands (remove_at i) S a = remove_stands S i (remove_fine S.sound cpu i)
  call_stands (select_at now w current) S a =
      select_stands now w current (select_fine S.sound now w current cpu S.one)
  call_stands (change_to t) S a = accepted tt

-- One after the other.
pub calls_sound : (cpu : CpuIndex) (l : List Call) (s : State) → SoundIn cpu s → AllAllowed cpu l s
    → SoundIn cpu (after_all cpu l s)
unfolding after_all
calls_sound cpu [] s S a = S
calls_sound cpu (c ∷ l) s S a = calls_sound cpu l (after cpu c s) (call_sound cpu s c S a.this) a.rest

all_stand : (cpu : CpuIndex) (l : List Call) (s : State) → SoundIn cpu s → AllAllowed cpu l s → AllStand cpu l s
all_stand cpu [] s S a = tt
all_stand cpu (c ∷ l) s S a =
    record {
      this = call_stands cpu s c S a.this;
      rest = all_stand cpu l (after cpu c s) (call_sound cpu s c S a.this) a.rest;
    }

pub fresh_sound : (cpu : CpuIndex) (t : List ThreadRecord) → length t ≤ max_records → Bytes t → SoundIn cpu (fresh t)
fresh_sound cpu t small b = record { sound = new_sound t small; one = λ j e. never cc; bytes = b }

-- From a fresh queue on any table every call of one processor is accepted, or refused with queue and records as they
-- were; none halts.
pub calls_stand : (cpu : CpuIndex) (t : List ThreadRecord) → length t ≤ max_records → Bytes t → (calls : List Call)
    → AllAllowed cpu calls (fresh t) → AllStand cpu calls (fresh t)
calls_stand cpu t small b calls a = all_stand cpu calls (fresh t) (fresh_sound cpu t small b) a

-- DEMAND 3. From a fresh queue on any table of up to 4,096 records, after every list of calls for one processor
-- (enqueues at either end, removals, selections, each accepted or refused without a change), between which records that
-- are not queued change at will and records are added or dropped: a selection with a sound window that admits every
-- queued thread, with one fair backend among them and the budget threads filed by whether they have time left, refuses
-- nothing and names, of all queued threads, the one with the least dispatch key.
pub demand_3 : (cpu : CpuIndex) (t : List ThreadRecord) → length t ≤ max_records → Bytes t → (calls : List Call)
    → AllAllowed cpu calls (fresh t)
    → (now : ℕ) (w : CpuWindow) (current : Option Candidate) → PremisesIn (after_all cpu calls (fresh t)) now w
    → AnsweredIn cpu (after_all cpu calls (fresh t)) now w current
demand_3 cpu t small b calls a now w current P =
    let S = calls_sound cpu calls (fresh t) (fresh_sound cpu t small b) a in
    (one_selection S.sound S.one now w current P).0
