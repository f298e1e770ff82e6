-- Two tables alike but for links: what is the same in both.
use Rattle.std.specs.Prelude.{◌≡◌, refl, List, [], ◌∷◌, map, ℕ, length, get_or, Ok, Err}
use Rattle.refusal.specs.Answer.{damage}
use Rattle.std.proofs.Common.{sym, ap, ◌∙◌}
use Rattle.std.proofs.lemmas.List.{length-map}
use Rattle.std.proofs.Math.ListN.{get_or-map}
use Rattle.thread.specs.declared.CpuIndex.{CpuIndex}
use Rattle.thread.specs.declared.ThreadRecord.{ThreadRecord}
use Rattle.thread.specs.Membership.{empty_links, empty_queue_links}
use Rattle.thread.specs.Records.{with_links, with_queue_links}
use Rattle.thread.specs.TreeKey.{ready_index_key}
use Rattle.thread.specs.Judgement.{is_bad_record}
use Rattle.codec.specs.Codec.{decoded}
use Rattle.rows.specs.Table.{record_of, reading, links_at, key_at, queue_links_at}
use Rattle.sound_index.specs.Holds.{besides_links}
use Rattle.sound_lists.specs.Sound.{without_lists}
use Rattle.sound_queue.specs.Sound.{Filed, by_filing, in_partner, Queued, without_links}

-- Tables that f makes alike have as many records,
pub alike_length : (f : ThreadRecord → ThreadRecord) (t s : List ThreadRecord) → map f s ≡ map f t → length s ≡ length t
alike_length f t s e = sym (length-map s f) ∙ ap (length {A = ThreadRecord}) e ∙ length-map t f

-- and at each number records that f makes alike.
pub alike_record : (f : ThreadRecord → ThreadRecord) (t s : List ThreadRecord) (j : ℕ) → map f s ≡ map f t
    → f (record_of s j) ≡ f (record_of t j)
unfolding record_of
alike_record f t s j e =
    sym (get_or-map f s j (decoded [])) ∙ ap (λ (l : List ThreadRecord). get_or l j (f (decoded []))) e
    ∙ get_or-map f t j (decoded [])

-- A read of what f leaves is the same.
alike_reading : {A : Type 0} (f : ThreadRecord → ThreadRecord) (g : ThreadRecord → A) (d : A) (t s : List ThreadRecord)
    (j : ℕ) → ((r : ThreadRecord) → g (f r) ≡ g r)
    → map f s ≡ map f t → reading s j g d ≡ reading t j g d
unfolding reading
alike_reading {A} f g d t s j h e =
    let k : g (record_of s j) ≡ g (record_of t j) = sym (h (record_of s j)) ∙ ap g (alike_record f t s j e)
    ∙ h (record_of t j) in
    rw (alike_length f t s e, k)

-- Tree stores leave list links.
pub besides_queue_links : (t s : List ThreadRecord) (j : ℕ) → besides_links s ≡ besides_links t
    → queue_links_at s j ≡ queue_links_at t j
unfolding besides_links queue_links_at
besides_queue_links t s j e =
    alike_reading (with_links empty_links)
    (λ (r : ThreadRecord). Ok r.queue_links) (Err damage) t
    s j (λ r. refl) e

-- List stores leave tree links and keys.
pub list_stores_links : (t s : List ThreadRecord) (j : ℕ) → without_lists s ≡ without_lists t
    → links_at s j ≡ links_at t j
unfolding without_lists links_at
list_stores_links t s j e =
    alike_reading (with_queue_links empty_queue_links) (λ (r : ThreadRecord). Ok r.ready_tree) (Err damage) t s
    j (λ r. refl) e

pub list_stores_key : (t s : List ThreadRecord) (j : ℕ) → without_lists s ≡ without_lists t → key_at s j ≡ key_at t j
unfolding without_lists key_at ready_index_key
list_stores_key t s j e =
    alike_reading (with_queue_links empty_queue_links)
    (λ (r : ThreadRecord). Ok (ready_index_key r j)) (Err damage) t s j
    (λ r. refl) e

pub list_stores_length : (t s : List ThreadRecord) → without_lists s ≡ without_lists t → length s ≡ length t
unfolding without_lists
list_stores_length t s e = alike_length (with_queue_links empty_queue_links) t s e

-- The two may be left out in either order.
swapped : (t : List ThreadRecord) → besides_links (without_lists t) ≡ without_lists (besides_links t)
unfolding besides_links without_lists
swapped [] = refl
swapped (r ∷ t) =
    ap (λ (l : List ThreadRecord). with_links empty_links (with_queue_links empty_queue_links r) ∷ l) (swapped t)

-- List stores, then tree stores.
pub both_stores : (t s u : List ThreadRecord) → without_lists s ≡ without_lists t → besides_links u ≡ besides_links s
    → without_links u ≡ without_links t
both_stores t s u e f = swapped u ∙ ap without_lists f ∙ sym (swapped s) ∙ ap besides_links e

-- What is left of a record without links.
abbrev bare : ThreadRecord → ThreadRecord
bare r = with_links empty_links (with_queue_links empty_queue_links r)

joint : (t : List ThreadRecord) → without_links t ≡ map bare t
unfolding besides_links without_lists
joint [] = refl
joint (r ∷ t) = ap (λ (l : List ThreadRecord). bare r ∷ l) (joint t)

module _ (t s : List ThreadRecord) (e : without_links s ≡ without_links t) where
  bare_table : map bare s ≡ map bare t
  bare_table = sym (joint s) ∙ e ∙ joint t

  pub same_length : length s ≡ length t
  same_length = alike_length bare t s bare_table

  -- Parameters, runtime, turn and processor of every record.
  pub same_parameters : (j : ℕ) → (record_of s j).parameters ≡ (record_of t j).parameters
  same_parameters j = ap (λ (r : ThreadRecord). r.parameters) (alike_record bare t s j bare_table)

  pub same_runtime : (j : ℕ) → (record_of s j).runtime ≡ (record_of t j).runtime
  same_runtime j = ap (λ (r : ThreadRecord). r.runtime) (alike_record bare t s j bare_table)

  pub same_cpu : (j : ℕ) → (record_of s j).cpu ≡ (record_of t j).cpu
  same_cpu j = ap (λ (r : ThreadRecord). r.cpu) (alike_record bare t s j bare_table)

-- What is asked of a queued record is asked of no links.
pub queued_still : (cpus : ℕ → CpuIndex) (r s : ThreadRecord) (k : ℕ) → s.parameters ≡ r.parameters
    → s.runtime ≡ r.runtime → s.cpu ≡ r.cpu → Queued cpus r k → Queued cpus s k
unfolding is_bad_record
queued_still cpus r s k e f g h = record {
  judged = rw (e, f) h.judged;
  assigned = rw (g, e) h.assigned;
  listed = rw e h.listed;
  filed = filed_still h.filed;
}
  where
    filed_still : Filed r k → Filed s k
    filed_still (by_filing x) = by_filing (rw (e, f) x)
    filed_still (in_partner m b x y) = in_partner m (rw e b) (rw (e, f) x) y
