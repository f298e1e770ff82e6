-- Choosing by what was read, and by whether a store was made, with the laws by which proofs do: r is what the call
-- gave, x what its contract says of it.
use Rattle.std.specs.Prelude.{◌≡◌, List, Result, Ok, Err}
use Rattle.refusal.specs.Answer.{or_damaged, damage}
use Rattle.std.proofs.Common.{sym, ◌∙◌}
use Rattle.thread.specs.declared.Links.{Links}
use Rattle.thread.specs.declared.QueueLinks.{QueueLinks}
use Rattle.thread.specs.declared.ThreadRecord.{ThreadRecord}
use Rattle.thread.specs.declared.TreeKey.{TreeKey}
use Rattle.rows.specs.Table.{Out, out}
use Rattle.rows.specs.Asked.{answering}
use Rattle.rows.specs.AnswersLaws.{same_told, same_change}
use Rattle.refusal.specs.declared.Damaged.{Damaged}

-- Each with Damaged first.
unfoldable pub on_links : {A : Type 0} → Result Links Damaged → A → (Links → A) → A
on_links (Ok l) a f = f l
on_links (Err _) a f = a

unfoldable pub on_key : {A : Type 0} → Result TreeKey Damaged → A → (TreeKey → A) → A
on_key (Ok k) a f = f k
on_key (Err _) a f = a

unfoldable pub on_queue_links : {A : Type 0} → Result QueueLinks Damaged → A → (QueueLinks → A) → A
on_queue_links (Ok l) a f = f l
on_queue_links (Err _) a f = a

unfoldable pub on_record : {A : Type 0} → Result ThreadRecord Damaged → A → (ThreadRecord → A) → A
on_record (Ok r) a f = f r
on_record (Err _) a f = a

-- Of the table as it is left.
unfoldable pub on_made : {A : Type 0} → Out (Result (Unit {0}) Damaged) → (List ThreadRecord → A)
    → (List ThreadRecord → A) → A
on_made (out (Err _) t) a f = a t
on_made (out (Ok _) t) a f = f t

module _ {A : Type 0} {y : A} (a : A) where
  pub links_got : {r : Result Links Damaged} (x : Result Links Damaged) {l : Links} (f : Links → A)
      → or_damaged r ≡ or_damaged x → r ≡ Ok l → y ≡ f l → y ≡ on_links x a f
  unfolding on_links
  links_got {r} x f e m h = rw (sym (same_told r x e) ∙ m) h

  pub links_damaged : {r : Result Links Damaged} (x : Result Links Damaged) (f : Links → A)
      → or_damaged r ≡ or_damaged x → r ≡ (Err damage) → y ≡ a → y ≡ on_links x a f
  unfolding on_links
  links_damaged {r} x f e m h = rw (sym (same_told r x e) ∙ m) h

  pub key_got : {r : Result TreeKey Damaged} (x : Result TreeKey Damaged) {k : TreeKey} (f : TreeKey → A)
      → or_damaged r ≡ or_damaged x → r ≡ Ok k → y ≡ f k → y ≡ on_key x a f
  unfolding on_key
  key_got {r} x f e m h = rw (sym (same_told r x e) ∙ m) h

  pub key_damaged : {r : Result TreeKey Damaged} (x : Result TreeKey Damaged) (f : TreeKey → A)
      → or_damaged r ≡ or_damaged x → r ≡ (Err damage) → y ≡ a → y ≡ on_key x a f
  unfolding on_key
  key_damaged {r} x f e m h = rw (sym (same_told r x e) ∙ m) h

  pub queue_links_got : {r : Result QueueLinks Damaged} (x : Result QueueLinks Damaged) {l : QueueLinks}
      (f : QueueLinks → A) → or_damaged r ≡ or_damaged x → r ≡ Ok l → y ≡ f l → y ≡ on_queue_links x a f
  unfolding on_queue_links
  queue_links_got {r} x f e m h = rw (sym (same_told r x e) ∙ m) h

  pub queue_links_damaged : {r : Result QueueLinks Damaged} (x : Result QueueLinks Damaged) (f : QueueLinks → A)
      → or_damaged r ≡ or_damaged x → r ≡ (Err damage) → y ≡ a
      → y ≡ on_queue_links x a f
  unfolding on_queue_links
  queue_links_damaged {r} x f e m h = rw (sym (same_told r x e) ∙ m) h

  pub record_got : {r x : Result ThreadRecord Damaged} {t : ThreadRecord} (f : ThreadRecord → A) → r ≡ x → r ≡ Ok t
      → y ≡ f t → y ≡ on_record x a f
  unfolding on_record
  record_got f e m h = rw (sym e ∙ m) h

  pub record_damaged : {r x : Result ThreadRecord Damaged} (f : ThreadRecord → A) → r ≡ x → r ≡ (Err damage) → y ≡ a
      → y ≡ on_record x a f
  unfolding on_record
  record_damaged f e m h = rw (sym e ∙ m) h

module _ {A : Type 0} {y : A} {r : Result (Unit {0}) Damaged} (x : Out (Result (Unit {0}) Damaged))
    {t : List ThreadRecord} (a f : List ThreadRecord → A) where
  pub made : out (or_damaged r) t ≡ answering or_damaged x → r ≡ (Ok tt) → y ≡ f t → y ≡ on_made x a f
  unfolding on_made
  made e m h = rw (sym (same_change r t x e)) (rw m h)

  pub not_made : out (or_damaged r) t ≡ answering or_damaged x → r ≡ (Err damage) → y ≡ a t → y ≡ on_made x a f
  unfolding on_made
  not_made e m h = rw (sym (same_change r t x e)) (rw m h)

pub ruleset tables = (
  links_got,
  links_damaged,
  key_got,
  key_damaged,
  queue_links_got,
  queue_links_damaged,
  record_got,
  record_damaged,
  made,
  not_made,
)
