-- The laws by which the entries meet their contracts: the call was made with q and m, which are what the numbers stand
-- for, and its answer went into words.
use Rattle.std.specs.Prelude.{ℕ, ◌≡◌, ◌≢◌, Bool, List, Option, Result, Ok, Err}
use Rattle.std.proofs.Common.{sym, ap, ◌∙◌}
use Rattle.refusal.specs.declared.Refusal.{Refusal}
use Rattle.refusal.specs.Answer.{Answer, value, refused, number_of, damaged, by_number}
use Rattle.thread.specs.declared.QueueMembership.{QueueMembership}
use Rattle.thread.specs.declared.ThreadQueue.{ThreadQueue}
use Rattle.thread.specs.declared.ThreadRecord.{ThreadRecord}
use Rattle.rows.specs.Table.{out}
use Rattle.rows.specs.Asked.{answering}
use Rattle.rows.specs.Unmoved.{Unmoved, UnmovedBut}
use Rattle.rows.specs.AskedLaws.{answered_by}
use Rattle.codec.specs.Codec.{link_from}
use Rattle.lists.specs.Calls as lists
use Rattle.lists.specs.Calls.{push_call, push_front_call}
use Rattle.ready_index.specs.Calls.{first_call, contains_call, insert_call, remove_call}
use Rattle.row_entries.specs.declared.ContainsAnswer.{ContainsAnswer}
use Rattle.row_entries.specs.declared.IndexAnswer.{IndexAnswer}
use Rattle.row_entries.specs.declared.LinkWords.{LinkWords}
use Rattle.row_entries.specs.declared.ListAnswer.{ListAnswer}
use Rattle.row_entries.specs.Words.{list_from, nothing, link_words, list_words, index_words, contains_words}

-- A list by its two ends, and the words of an answer by those of its links.
pub list_read : (a b c d len : ℕ) {head tail : Option ℕ} → head ≡ link_from a b → tail ≡ link_from c d
    → record { head = head; tail = tail; len = len } ≡ list_from a b c d len
unfolding list_from
list_read a b c d len e f = rw (e, f)

pub list_worded : {a : Result ThreadQueue Refusal} (q : ThreadQueue) {head tail : LinkWords} → a ≡ Ok q
    → head ≡ link_words q.head → tail ≡ link_words q.tail
    → record { number = 0; head = head; tail = tail; len = q.len } ≡ list_words (by_number a)
unfolding list_words
list_worded q m e f = rw (m, e, f)

pub refusal_worded : {a : Result ThreadQueue Refusal} {n : Refusal} {k : ℕ} → a ≡ Err n → k ≡ number_of n
    → record { number = k; head = nothing; tail = nothing; len = 0 } ≡ list_words (by_number a)
unfolding list_words
refusal_worded m e = rw (m, e)

pub root_worded : {a : Result (Option ℕ) Refusal} {l : Option ℕ} {thread : LinkWords} → a ≡ Ok l → thread ≡ link_words l
    → record { number = 0; thread = thread } ≡ index_words (by_number a)
unfolding index_words
root_worded m e = rw (m, e)

-- A refusal's number.
module _ {n : Refusal} {k : ℕ} (e : k ≡ number_of n) where
  pub root_refused : {a : Result (Option ℕ) Refusal} → a ≡ Err n
      → record { number = k; thread = nothing } ≡ index_words (by_number a)
  unfolding index_words
  root_refused m = rw (m, e)

  pub least_refused : {a : Result (Option ℕ) Refusal} → a ≡ Err n
      → record { number = k; thread = nothing } ≡ index_words (by_number a)
  unfolding index_words
  least_refused m = rw (m, e)

  pub contains_refused : {a : Result Bool Refusal} → a ≡ Err n
      → record { number = k; holds = 0 } ≡ contains_words (by_number a)
  unfolding contains_words
  contains_refused m = rw (m, e)

-- An answer with a number leaves the rows as its refusal does.
module _ {B : Type 0} {b c : B} where
  pub list_keeps : {w : ListAnswer} (a : Answer ThreadQueue) → w ≡ list_words a → Unmoved a b c → w.number ≢ 0 → c ≡ b
  unfolding list_words
  list_keeps (value q) e u h = absurd (h (ap (λ (x : ListAnswer). x.number) e))
  list_keeps (refused n) e u h = u

  pub index_keeps : {w : IndexAnswer} (a : Answer (Option ℕ)) → w ≡ index_words a → UnmovedBut damaged a b c
      → w.number ≢ 0 → w.number ≢ damaged → c ≡ b
  unfolding index_words
  index_keeps (value l) e u h k = absurd (h (ap (λ (x : IndexAnswer). x.number) e))
  index_keeps (refused n) e u h k = u (λ z. k (ap (λ (x : IndexAnswer). x.number) e ∙ z))

module _ (t : List ThreadRecord) (id : ℕ) {s : List ThreadRecord} {q q' : ThreadQueue} {m m' : QueueMembership}
    {a : Answer ThreadQueue} {w : ListAnswer} where
  pub pushed : out a s ≡ push_call t q id m → q ≡ q' → m ≡ m' → w ≡ list_words a
      → out w s ≡ answering list_words (push_call t q' id m')
  pushed h e₁ e₂ e = rw (sym e₁, sym e₂) (answered_by list_words h e)

  pub pushed_front : out a s ≡ push_front_call t q id m → q ≡ q' → m ≡ m' → w ≡ list_words a
      → out w s ≡ answering list_words (push_front_call t q' id m')
  pushed_front h e₁ e₂ e = rw (sym e₁, sym e₂) (answered_by list_words h e)

  pub removed : out a s ≡ lists.remove_call t q id m → q ≡ q' → m ≡ m' → w ≡ list_words a
      → out w s ≡ answering list_words (lists.remove_call t q' id m')
  removed h e₁ e₂ e = rw (sym e₁, sym e₂) (answered_by list_words h e)

module _ (t : List ThreadRecord) (id : ℕ) {s : List ThreadRecord} {l l' : Option ℕ} {a : Answer (Option ℕ)}
    {w : IndexAnswer} where
  pub inserted : out a s ≡ insert_call t l id → l ≡ l' → w ≡ index_words a
      → out w s ≡ answering index_words (insert_call t l' id)
  inserted h e₁ e = rw (sym e₁) (answered_by index_words h e)

  pub taken_out : out a s ≡ remove_call t l id → l ≡ l' → w ≡ index_words a
      → out w s ≡ answering index_words (remove_call t l' id)
  taken_out h e₁ e = rw (sym e₁) (answered_by index_words h e)

module _ (t : List ThreadRecord) {l l' : Option ℕ} where
  pub least_of_lem : {a : Answer (Option ℕ)} {w : IndexAnswer} → a ≡ first_call t l → l ≡ l' → w ≡ index_words a
      → w ≡ index_words (first_call t l')
  least_of_lem h e₁ e = rw (e, h, e₁)

  pub contained_in : (id : ℕ) {a : Answer Bool} {w : ContainsAnswer} → a ≡ contains_call t l id → l ≡ l'
      → w ≡ contains_words a → w ≡ contains_words (contains_call t l' id)
  contained_in id h e₁ e = rw (e, h, e₁)

pub ruleset wordings = (
  list_read,
  list_worded,
  refusal_worded,
  root_worded,
  root_refused,
  least_refused,
  contains_refused,
  pushed,
  pushed_front,
  removed,
  inserted,
  taken_out,
  least_of_lem,
  contained_in,
)

pub ruleset keepings = (list_keeps, index_keeps)
