-- The laws by which the entries meet their contracts: the call was made with what the words stand for, and what it left
-- went back into words.
use Rattle.std.specs.Prelude.{ℕ, ◌≡◌, refl, Bool, true, false, List, [], ◌∷◌, Option, Some, None, Result, Ok, Err}
use Rattle.std.proofs.Math.Path.{sym}
use Rattle.std.proofs.Common.{ap, ◌∙◌}
use Rattle.refusal.specs.declared.Refusal.{Refusal}
use Rattle.refusal.specs.Answer.{Answer, value, refused, number_of, by_number}
use Rattle.policy.specs.declared.SchedulingParameters.{SchedulingParameters}
use Rattle.thread.specs.declared.CpuIndex.{CpuIndex}
use Rattle.thread.specs.declared.ThreadRecord.{ThreadRecord}
use Rattle.window_config.specs.declared.ArbitrationConfig.{ArbitrationConfig}
use Rattle.arbitration.specs.declared.Candidate.{Candidate}
use Rattle.arbitration.specs.declared.CpuWindow.{CpuWindow}
use Rattle.arbitration.specs.declared.Demand.{Demand}
use Rattle.arbitration.specs.declared.DispatchMode.{DispatchMode}
use Rattle.arbitration.specs.Calls.{With, with, key_call}
use Rattle.rows.specs.Table.{Out, out}
use Rattle.queue.specs.RunQueue.{CpuRunQueue}
use Rattle.queue.specs.Queue.{Step, step}
use Rattle.selection.specs.declared.Selection.{Selection}
use Rattle.selection.specs.Peek.{peeked, peek_next}
use Rattle.decisions.specs.declared.Choice.{Choice}
use Rattle.decisions.specs.declared.Contention.{Contention}
use Rattle.decisions.specs.declared.Turns.{Turns}
use Rattle.decisions.specs.Switch.{choose_ready, mode_of}
use Rattle.runtime.specs.Prepare.{counted, prepare_enqueue}
use Rattle.runtime.specs.Account.{account_current, candidate_stored, current_candidate}
use Rattle.runtime.specs.Deadline.{refresh_deadline}
use Rattle.policy_words.specs.PolicyWords.{word}
use Rattle.window_words.specs.WindowWords.{window_period, window_allowance, window_floor, priority_rank_word}
use Rattle.window_words.specs.WindowWords.{budget_rank_word}
use Rattle.window_words.specs.WindowWords.{fair_rank_word, borrow_rank_word, prefer_fair_word, flag_from, config_of}
use Rattle.window_words.specs.WindowWords.{order_of, progressed}
use Rattle.window_entries.specs.Entries as window_entries
use Rattle.board_words.specs.BoardWords.{made_window}
use Rattle.board.specs.Board.{Left, left, numbered, answered, beside, queue_left, lengths_of, selection_left}
use Rattle.board.specs.Board.{key_left}
use Rattle.board.specs.Board.{prepare_left, account_left, finish_left, candidate_over, candidate_left, flag_of}
use Rattle.board.specs.Board.{deadline_left}
use Rattle.board.specs.Progress.{window_left, progress}
use Rattle.board.specs.Kept.{turns_kept, account_kept, deadline_kept, left_so, left_as_was}
use Rattle.dispatch_keys.specs.declared.DispatchKey.{DispatchKey}

-- An answer was stored, or a refusal's number told.
module _ (before : Selection) {a : Result Selection Refusal} where
  pub selection_stored : {s v : Selection} → a ≡ Ok s → v ≡ s → left 0 v ≡ answered before (by_number a)
  unfolding answered
  selection_stored m e = rw (m, e)

  pub selection_refused : {n : Refusal} {k : ℕ} → a ≡ Err n → k ≡ number_of n
      → left k before ≡ answered before (by_number a)
  unfolding answered
  selection_refused m e = rw (m, e)

-- So was a selection's window.
module _ (w fresh : CpuWindow) {a : Result Selection Refusal} where
  pub progress_stored : {s : Selection} {v : CpuWindow} → a ≡ Ok s
      → v ≡ progressed w fresh.epoch fresh.priority_remaining_ns fresh.protected_remaining_ns
      → v ≡ window_left w fresh (by_number a)
  progress_stored m e = rw m e

  pub progress_refused : {n : Refusal} → a ≡ Err n → w ≡ window_left w fresh (by_number a)
  progress_refused m = rw m refl

module _ (before : CpuWindow) {a : Result CpuWindow Refusal} where
  pub window_stored : {u v : CpuWindow} → a ≡ Ok u → v ≡ u → left 0 v ≡ answered before (by_number a)
  unfolding answered
  window_stored m e = rw (m, e)

  pub window_refused : {n : Refusal} {k : ℕ} → a ≡ Err n → k ≡ number_of n
      → left k before ≡ answered before (by_number a)
  unfolding answered
  window_refused m e = rw (m, e)

module _ (before : Bool) {a : Result Bool Refusal} where
  pub expired_stored : {b : Bool} (n : ℕ)
      → a ≡ Ok b → flag_from n ≡ b → left 0 (flag_of (n ∷ [])) ≡ answered before (by_number a)
  unfolding answered flag_of
  expired_stored n m e = rw (m, e)

  pub expired_refused : {n : Refusal} {k : ℕ} → a ≡ Err n → k ≡ number_of n
      → left k before ≡ answered before (by_number a)
  unfolding answered
  expired_refused m e = rw (m, e)

-- A candidate with an answer beside it, as a call leaves them.
abbrev told : Out (Answer (Unit {0}) × Candidate) → Left (Candidate × List ThreadRecord)
told (out x t) = left (numbered x.0) (x.1, t)

pub ruleset storing = (
  selection_stored,
  selection_refused,
  progress_stored,
  progress_refused,
  window_stored,
  window_refused,
  expired_stored,
  expired_refused,
)

-- A window's words before the epoch's are a configuration's, whatever follows.
pub config_read : (w : List ℕ) {c : ArbitrationConfig}
    → c
    ≡ config_of
    (word w window_period
    ∷ word w window_allowance
    ∷ word w window_floor
    ∷ word w priority_rank_word
    ∷ word w budget_rank_word
    ∷ word w fair_rank_word
    ∷ word w borrow_rank_word
    ∷ word w prefer_fair_word
    ∷ 0
    ∷ 0
    ∷ 0
    ∷ 0
    ∷ [])
    → c ≡ config_of w
unfolding config_of order_of
config_read w h = h

-- The queue's calls.
pub queue_left_lem : {a : Answer (Unit {0})} {n : ℕ} {q : CpuRunQueue} {t : List ThreadRecord} {x : Out
    (Step (Unit {0}))}
    → out (step a q) t ≡ x → n ≡ numbered a → left n (q, t) ≡ queue_left x
unfolding queue_left
queue_left_lem h e = rw (e, sym h)

pub lengths_stored : {a b c x y z : ℕ}
    → a ≡ x → b ≡ y → c ≡ z → left 0 (lengths_of (a ∷ b ∷ c ∷ [])) ≡ left 0 (x, y, z)
unfolding lengths_of
lengths_stored f g h = rw (f, g, h)

pub selected : {k : ℕ} {s : Selection} {a : Answer Selection} {u v w₁ : CpuWindow} {cur : Option Candidate}
    {q₁ : CpuRunQueue} {t₁ : List ThreadRecord}
    (before : Selection) (t : List ThreadRecord) (q : CpuRunQueue) (c : CpuIndex) (now : ℕ) (w : CpuWindow)
    (current : Option Candidate)
    → u ≡ w → cur ≡ current → out (peeked a w₁ q₁) t₁ ≡ peek_next t q c now u cur
    → v ≡ window_left w w₁ a → left k s ≡ answered before a
    → left k (s, (v, q₁, t₁)) ≡ selection_left before (peek_next t q c now w current)
unfolding selection_left beside
selected {k} {s} {a} {u} {v} {w₁} {cur} {q₁} {t₁} before t q c now w current e f m p h =
    whole (m ∙ ap (λ u. peek_next t q c now u cur) e ∙ ap (λ cur. peek_next t q c now w cur) f)
  where
    whole : out (peeked a w₁ q₁) t₁ ≡ peek_next t q c now w current
        → left k (s, (v, q₁, t₁)) ≡ selection_left before (peek_next t q c now w current)
    whole g =
        ap (λ v. left k (s, (v, q₁, t₁))) (p ∙ progress t q c now w current g) ∙ ap (λ l. beside l (w₁, q₁, t₁)) h
        ∙ ap (selection_left before) g

-- A window's calls.
module _ {A : Type 0} (before : A) {y : Left A} where
  pub answer_is : {v x : Answer A} → v ≡ x → y ≡ answered before v → y ≡ answered before x
  answer_is e h = rw (sym e) h

-- What the goal does not show becomes known premise by premise, here and of `chosen`, so that a search by the law alone
-- comes to its end.
pub window_made_lem : (before : CpuWindow) {y : Left CpuWindow} {v : Answer CpuWindow} {c x : ArbitrationConfig}
    → y ≡ answered before v → v ≡ made_window c → c ≡ x → y ≡ answered before (made_window x)
window_made_lem before h e f = rw (sym f, sym e) h

pub key_left_lem : {r : ℕ} {k : Option (DispatchKey × DispatchMode)} {w : CpuWindow} (before :
    Option (DispatchKey × DispatchMode)) (x : With (Option (DispatchKey × DispatchMode)))
    → window_entries.left r k w ≡ window_entries.left_of before x → left r (k, w) ≡ key_left before x
unfolding window_entries.left_of key_left beside answered
key_left_lem before (with (value a) v) h = cc
key_left_lem before (with (refused n) v) h = cc

-- The calls on the table: what was given back is stored where the call was made, and only then.
module _ (t : List ThreadRecord) (id : ℕ) {s : List ThreadRecord} {v : Result (Unit {0}) Refusal} where
  pub prepared : (now : ℕ) {f front : Bool} {c b d e : Turns}
      → out (counted (by_number v) d) s ≡ prepare_enqueue t id f now c
      → v ≡ (Ok tt)
      → f ≡ front
      → c ≡ b
      → e ≡ d
      → left 0 (e, s) ≡ prepare_left (prepare_enqueue t id front now b)
  unfolding prepare_left
  prepared now h a g e k = rw (sym g, sym e, sym h, a, k)

  pub not_prepared : (now : ℕ) {f front : Bool} {c b d : Turns} {n : Refusal} {r : ℕ}
      → out (counted (by_number v) d) s ≡ prepare_enqueue t id f now c
      → v ≡ Err n
      → f ≡ front
      → c ≡ b
      → r ≡ number_of n
      → left r (b, s) ≡ prepare_left (prepare_enqueue t id front now b)
  unfolding prepare_left
  not_prepared now {f} {front} {c} {b} {d} {n} {r} h a g e k = go (rw a at h)
    where
      go : out (counted (refused (number_of n)) d) s ≡ prepare_enqueue t id f now c
          → left r (b, s) ≡ prepare_left (prepare_enqueue t id front now b)
      go h = rw (k, sym e, sym g, sym h, turns_kept t id f now c h)

  pub accounted : (start end : ℕ) {m n : DispatchMode} {c b d e : CpuWindow}
      → out (with (by_number v) d) s ≡ account_current t id c m start end
      → v ≡ (Ok tt)
      → c ≡ b
      → m ≡ n
      → e ≡ progressed b d.epoch d.priority_remaining_ns d.protected_remaining_ns
      → left 0 (e, s) ≡ account_left (account_current t id b n start end)
  unfolding account_left
  accounted start end {m} {n} {c} {b} {d} {e} h a f g k = whole (k ∙ left_so b (account_kept t id b n start end) made)
    where
      made : out (with (value tt) d) s ≡ account_current t id b n start end
      made = rw (sym f, sym g) (rw a at h)

      whole : e ≡ d → left 0 (e, s) ≡ account_left (account_current t id b n start end)
      whole q = rw (sym made, q)

  pub not_accounted : (start end : ℕ) {m n : DispatchMode} {c b d : CpuWindow} {x : Refusal} {r : ℕ}
      → out (with (by_number v) d) s ≡ account_current t id c m start end
      → v ≡ Err x
      → c ≡ b
      → m ≡ n
      → r ≡ number_of x
      → left r (b, s) ≡ account_left (account_current t id b n start end)
  unfolding account_left
  not_accounted start end {m} {n} {c} {b} {d} {x} {r} h a f g k =
      whole (left_as_was b (account_kept t id b n start end) made)
    where
      made : out (with (refused (number_of x)) d) s ≡ account_current t id b n start end
      made = rw (sym f, sym g) (rw a at h)

      whole : d ≡ b → left r (b, s) ≡ account_left (account_current t id b n start end)
      whole q = rw (sym made, k, q)

pub finished : {x : Out (Answer (Unit {0}))} {s : List ThreadRecord} {v : Answer (Unit {0})} {r : ℕ} → out v s ≡ x
    → r ≡ numbered v → left r s ≡ finish_left x
unfolding finish_left
finished h n = rw (sym h, n)

candidate_told : (before : Candidate) (x : Out (Answer (Option Candidate)))
    → told (candidate_stored before x) ≡ candidate_left before x
unfolding candidate_stored candidate_left candidate_over beside
candidate_told before (out (value (Some c)) t) = refl
candidate_told before (out (value None) t) = refl
candidate_told before (out (refused n) t) = refl

pub candidate_given : (t : List ThreadRecord) (id now : ℕ) {f running : Bool} {s : List ThreadRecord}
    {v : Answer (Unit {0})} {c : Candidate} {r : ℕ} (before : Candidate)
    → out (v, c) s ≡ candidate_stored before (current_candidate t id f now)
    → f ≡ running
    → r ≡ numbered v
    → left r (c, s) ≡ candidate_left before (current_candidate t id running now)
candidate_given t id now {f} before h e k =
    rw (sym e, k) (ap told h ∙ candidate_told before (current_candidate t id f now))

pub chosen : {a b : Option DispatchKey} {k l : Option (DispatchKey × DispatchMode)} {p q : SchedulingParameters} {e y t
    e₁ y₁ t₁ : Bool} {c x : Choice}
    → x ≡ c → c ≡ choose_ready a k p e y t → a ≡ b → k ≡ l → p ≡ q → e ≡ e₁ → y ≡ y₁ → t ≡ t₁
    → left 0 x ≡ left 0 (choose_ready b l q e₁ y₁ t₁)
chosen o h f g i j m n = rw (sym f, sym g, sym i, sym j, sym m, sym n, sym h, o)

module _ (t : List ThreadRecord) (id now : ℕ) (before : Option ℕ) where
  pub deadline_given : {s : List ThreadRecord} {a : Result (Option ℕ) Refusal} (m : Option DispatchMode) (x :
      Contention)
      {w v u z : CpuWindow} {d y : Option ℕ}
      → out (with (by_number a) u) s ≡ refresh_deadline t id now m w x
      → a ≡ Ok d
      → w ≡ v
      → z ≡ progressed v u.epoch u.priority_remaining_ns u.protected_remaining_ns
      → y ≡ d
      → left 0 (y, (z, s)) ≡ deadline_left before (refresh_deadline t id now m v x)
  unfolding deadline_left beside answered
  deadline_given {s} {a} m x {w} {v} {u} {z} {d} {y} h e f k g =
      whole (k ∙ left_so v (deadline_kept t id now v x m) made)
    where
      made : out (with (value d) u) s ≡ refresh_deadline t id now m v x
      made = rw (sym f) (rw e at h)

      whole : z ≡ u → left 0 (y, (z, s)) ≡ deadline_left before (refresh_deadline t id now m v x)
      whole q = rw (sym made, q, g)

  pub no_deadline_given : {s : List ThreadRecord} {a : Result (Option ℕ) Refusal} (m : Option DispatchMode) (x :
      Contention)
      {w v u : CpuWindow} {n : Refusal} {r : ℕ}
      → out (with (by_number a) u) s ≡ refresh_deadline t id now m w x
      → a ≡ Err n
      → w ≡ v
      → r ≡ number_of n
      → left r (before, (v, s)) ≡ deadline_left before (refresh_deadline t id now m v x)
  unfolding deadline_left beside answered
  no_deadline_given {s} {a} m x {w} {v} {u} {n} {r} h e f k =
      whole (left_as_was v (deadline_kept t id now v x m) made)
    where
      made : out (with (refused (number_of n)) u) s ≡ refresh_deadline t id now m v x
      made = rw (sym f) (rw e at h)

      whole : u ≡ v → left r (before, (v, s)) ≡ deadline_left before (refresh_deadline t id now m v x)
      whole q = rw (sym made, k, q)

  pub deadline_armed : (w : CpuWindow) {y : Left ((Option ℕ) × (CpuWindow × List ThreadRecord))}
      {m : Option DispatchMode} {k l : Option (DispatchKey × DispatchMode)} {x z : Contention}
      → y ≡ deadline_left before (refresh_deadline t id now m w x)
      → m ≡ mode_of k
      → k ≡ l
      → x ≡ z
      → y ≡ deadline_left before (refresh_deadline t id now (mode_of l) w z)
  deadline_armed w h e f g = rw (sym g, sym f, sym e) h

pub ruleset board_laws = (
  config_read,
  queue_left_lem,
  lengths_stored,
  selected,
  answer_is,
  key_left_lem,
  prepared,
  not_prepared,
  accounted,
  not_accounted,
  finished,
  candidate_given,
  deadline_given,
  no_deadline_given,
  deadline_armed,
)
