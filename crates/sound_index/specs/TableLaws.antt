-- Laws of reading and storing by number, on top of those of crate rows.
use Rattle.std.specs.Prelude.{◌≡◌, refl, List, [], ◌∷◌, map, ◌≢◌, ℕ, zero, suc, ◌<◌, ◌≤◌, length, get_or, set, Ok, Err}
use Rattle.std.specs.Prelude.{Result}
use Rattle.refusal.specs.declared.Damaged.{Damaged}
use Rattle.refusal.specs.Answer.{damage}
use Rattle.std.proofs.Common.{sym, ap, ◌∙◌, arith}
use Rattle.std.proofs.Math.Decide.{dec_le}
use Rattle.std.proofs.lemmas.List.{length-map}
use Rattle.std.proofs.Math.ListN.{get_or-map}
use Rattle.refusal.specs.Cases.{never}
use Rattle.thread.specs.declared.Links.{Links}
use Rattle.thread.specs.declared.TreeKey.{TreeKey}
use Rattle.thread.specs.declared.ThreadRecord.{ThreadRecord}
use Rattle.thread.specs.Membership.{empty_links}
use Rattle.thread.specs.Records.{with_links}
use Rattle.thread.specs.TreeKey.{ready_index_key, tree_key}
use Rattle.codec.specs.Codec.{decoded}
use Rattle.rows.specs.Table.{out, record_of, changed, reading, links_at, key_at, record_at, set_links}
use Rattle.rows.specs.TableLaws.{reading_same, reading_other, links_within, links_got_within, key_within}
use Rattle.rows.specs.TableLaws.{record_within, record_beyond, set_links_within}
use Rattle.sound_index.specs.Holds.{stored, besides_links}

-- A record of the table has links.
pub inside_links : (t : List ThreadRecord) (i : ℕ) → i < length t → (l : Links) × (links_at t i ≡ Ok l)
inside_links t i h = (_, links_within t i h)

-- A record of the table has a key.
pub inside_key : (t : List ThreadRecord) (i : ℕ) → i < length t → (k : TreeKey) × (key_at t i ≡ Ok k)
inside_key t i h = (_, key_within t i h)

-- A record's key ends with its number.
pub key_id : (t : List ThreadRecord) (i : ℕ) (k : TreeKey) → i < length t → key_at t i ≡ Ok k → k.id ≡ i
unfolding ready_index_key tree_key
key_id t i k h e =
    let z : Ok (ready_index_key (record_of t i) i) ≡ Ok k = sym (key_within t i h) ∙ e in
    let y : ready_index_key (record_of t i) i ≡ k = cc in
    ap (λ (q : TreeKey). q.id) (sym y)

-- A store into the table is made.
pub set_made : (t : List ThreadRecord) (i : ℕ) (l m : Links) → links_at t i ≡ Ok m
    → set_links t i l ≡ out (Ok tt) (stored t i l)
set_made t i l m e = set_links_within t i l (links_got_within t i e)

-- The stored links are read back.
pub stored_same : (t : List ThreadRecord) (i : ℕ) (l m : Links) → links_at t i ≡ Ok m
    → links_at (stored t i l) i ≡ Ok l
unfolding links_at
stored_same t i l m e =
    reading_same t i (with_links l) (λ (r : ThreadRecord). Ok r.ready_tree) (Err damage)
    (links_got_within t i e)

-- The links of other records stay.
pub stored_other : (t : List ThreadRecord) (i j : ℕ) (l : Links) → j ≢ i → links_at (stored t i l) j ≡ links_at t j
unfolding links_at
stored_other t i j l h =
    reading_other t i (with_links l) (λ (r : ThreadRecord). Ok r.ready_tree) (Err damage) j h

set_besides : (t : List ThreadRecord) (i : ℕ) (l : Links) (d : ThreadRecord)
    → map (with_links empty_links) (set t i (with_links l (get_or t i d))) ≡ map (with_links empty_links) t
set_besides [] i l d = refl
set_besides (r ∷ t) zero l d = refl
set_besides (r ∷ t) (suc i) l d = ap (λ (x : List ThreadRecord). with_links empty_links r ∷ x) (set_besides t i l d)

-- All but the tree links stays.
pub stored_besides : (t : List ThreadRecord) (i : ℕ) (l : Links) → besides_links (stored t i l) ≡ besides_links t
unfolding changed record_of besides_links
stored_besides t i l = set_besides t i l (decoded [])

-- Two tables alike but for the tree links have as many records,
pub besides_length : (t s : List ThreadRecord) → besides_links s ≡ besides_links t → length s ≡ length t
unfolding besides_links
besides_length t s e =
    sym (length-map s (with_links empty_links)) ∙ ap (length {A = ThreadRecord}) e
    ∙ length-map t (with_links empty_links)

-- at each number records alike but for them,
besides_record : (t s : List ThreadRecord) (i : ℕ) → besides_links s ≡ besides_links t
    → with_links empty_links (record_of s i) ≡ with_links empty_links (record_of t i)
unfolding besides_links record_of
besides_record t s i e =
    sym (get_or-map (with_links empty_links) s i (decoded []))
    ∙ ap (λ (l : List ThreadRecord). get_or l i (with_links empty_links (decoded []))) e
    ∙ get_or-map (with_links empty_links) t i (decoded [])

-- and the same keys.
pub besides_key : (t s : List ThreadRecord) (i : ℕ) → besides_links s ≡ besides_links t → key_at s i ≡ key_at t i
unfolding key_at reading ready_index_key
besides_key t s i e =
    let k : ◌≡◌ {A = Result TreeKey Damaged} (Ok (ready_index_key (record_of s i) i))
    (Ok (ready_index_key (record_of t i) i)) =
    ap (λ (r : ThreadRecord). Ok (ready_index_key r i)) (besides_record t s i e) in
    rw (besides_length t s e, k)

-- A record is the same where its tree links are too.
pub same_record : (t s : List ThreadRecord) (j : ℕ) → besides_links s ≡ besides_links t → links_at s j ≡ links_at t j
    → record_at s j ≡ record_at t j
same_record t s j e h = go (dec_le (suc j) (length t))
  where
    go : Dec (suc j ≤ length t) → record_at s j ≡ record_at t j
    go (yes l) =
        let m : j < length s = omega (arith, besides_length t s e) in
        let k : Ok (record_of s j).ready_tree
        ≡ Ok (record_of t j).ready_tree = sym (links_within s j m) ∙ h ∙ links_within t j l in
        let n : (record_of s j).ready_tree ≡ (record_of t j).ready_tree = cc in
        let r : record_of s j ≡ record_of t j =
        ap (λ (x : ThreadRecord). with_links (record_of s j).ready_tree x) (besides_record t s j e)
        ∙ ap (λ (x : Links). with_links x (record_of t j)) n in
        record_within s j m ∙ ap (λ (x : ThreadRecord). Ok x) r ∙ sym (record_within t j l)
    go (no l) =
        let m : length s ≤ j = omega (arith, besides_length t s e) in
        record_beyond s j m ∙ sym (record_beyond t j (omega arith))

got_record : (t s : List ThreadRecord) (j : ℕ) → j < length t → record_at s j ≡ record_at t j
    → (j < length s) × (record_of s j ≡ record_of t j)
got_record t s j l e = go (dec_le (suc j) (length s))
  where
    go : Dec (suc j ≤ length s) → (j < length s) × (record_of s j ≡ record_of t j)
    go (yes m) =
        let k : Ok (record_of s j) ≡ Ok (record_of t j) = sym (record_within s j m) ∙ e
        ∙ record_within t j l in (m, cc)
    go (no m) =
        let k : ◌≡◌ {A = Result ThreadRecord Damaged} (Err damage) (Ok (record_of t j)) =
        sym (record_beyond s j (omega arith)) ∙ e
        ∙ record_within t j l in
        never cc

-- A record that stays keeps its tree links,
pub record_links : (t s : List ThreadRecord) (j : ℕ) → j < length t → record_at s j ≡ record_at t j
    → links_at s j ≡ links_at t j
record_links t s j l e =
    let g = got_record t s j l e in links_within s j g.0
    ∙ ap (λ (r : ThreadRecord). Ok r.ready_tree) g.1 ∙ sym (links_within t j l)

-- and its key.
pub record_key : (t s : List ThreadRecord) (j : ℕ) → j < length t → record_at s j ≡ record_at t j
    → key_at s j ≡ key_at t j
record_key t s j l e =
    let g = got_record t s j l e in key_within s j g.0
    ∙ ap (λ (r : ThreadRecord). Ok (ready_index_key r j)) g.1 ∙ sym (key_within t j l)
