-- A sound tree is balanced and in key order: so everything in Demand2 is true of it after any list of calls.
use Rattle.std.specs.Prelude.{◌≡◌, refl, Bool, true, false, List, ◌∷◌, ℕ, suc, ◌≤◌, length, Option, Result, Ok, Err}
use Rattle.refusal.specs.Answer.{damage}
use Rattle.std.proofs.Common.{sym, ap, ◌∙◌, subst, arith}
use Rattle.std.proofs.Math.Decide.{dec_le}
use Rattle.refusal.specs.Cases.{never, choose}
use Rattle.avl.specs.Tree.{Tree, leaf, in_order, Balanced}
use Rattle.thread.specs.declared.ThreadRecord.{ThreadRecord}
use Rattle.rows.specs.Table.{Out, out, record_at, max_records}
use Rattle.ready_index.specs.Index.{contains, insert, remove}
use Rattle.sound_index.specs.Holds.{root, Holds, has}
use Rattle.sound_index.specs.TableLaws.{besides_length}
use Rattle.sound_index.specs.Outcomes.{OnlyLinks}
use Rattle.sound_index.proofs.Demand2.{held_inside, contains_tells, insertion, removal, equal_key_refused}
use Rattle.sound_index.proofs.Demand2.{absent_refused, outside_refused, other_records}
use Rattle.sound_index.specs.Sound.{Sound, empty, inserted, removed, changed, Held}
use Rattle.refusal.specs.declared.Damaged.{Damaged}

-- An empty tree is held by every table.
pub holds_empty : (t : List ThreadRecord) → Holds t leaf
unfolding in_order
holds_empty t = record { linked = tt; rising = tt }

-- A refused call answered no root.
refused_is_no_root : {A : Type 0} (t s : List ThreadRecord) (m : Option ℕ) (o : Out (Result (Option ℕ) Damaged))
    → o ≡ out (Err damage) t
    → o ≡ out (Ok m) s → A
refused_is_no_root t s m o e f =
    let k : out (Err damage) t ≡ out (Ok m) s = sym e ∙ f in
    never cc

-- An accepted call's table and root are those that the theorems name.
settled : (t s : List ThreadRecord) (m : Option ℕ) (o : Out (Result (Option ℕ) Damaged)) (table : List ThreadRecord) (x
    : Tree) (l : List ℕ)
    → length t ≤ max_records → OnlyLinks l t table
    → o ≡ out (Ok (root x)) table → Holds table x → Balanced x → o ≡ out (Ok m) s → Held s m
settled t s m o table x l n k e h b f =
    let q : out (Ok (root x)) table ≡ out (Ok m) s = sym e ∙ f in
    let u : table ≡ s = cc in
    let v : root x ≡ m = cc in
    record {
      small = subst (λ (w : List ThreadRecord). length w ≤ max_records) u
          (omega (arith, besides_length t table k.besides));
      tree = x;
      is = v;
      holds = subst (λ (w : List ThreadRecord). Holds w x) u h;
      balanced = b;
    }

after_insert : (t s : List ThreadRecord) (x : Tree) (m : Option ℕ) (i : ℕ) → length t ≤ max_records → Holds t x
    → Balanced x
    → insert t (root x) i ≡ out (Ok m) s → Held s m
after_insert t s x m i n h b f = go (dec_le (suc i) (length t)) (has i (in_order x)) refl
  where
    go : Dec (suc i ≤ length t) → (y : Bool) → has i (in_order x) ≡ y → Held s m
    go (no k) y e = refused_is_no_root t s m _ (outside_refused t (root x) i (omega arith)).1 f
    go (yes k) true e = refused_is_no_root t s m _ (equal_key_refused t x i h b n e) f
    go (yes k) false e =
        let I = insertion t x i h b n k e in
        settled t s m _ I.table I.tree (i ∷ in_order x) n I.only I.is I.holds I.balanced f

after_remove : (t s : List ThreadRecord) (x : Tree) (m : Option ℕ) (i : ℕ) → length t ≤ max_records → Holds t x
    → Balanced x
    → remove t (root x) i ≡ out (Ok m) s → Held s m
after_remove t s x m i n h b f = go (dec_le (suc i) (length t)) (has i (in_order x)) refl
  where
    go : Dec (suc i ≤ length t) → (y : Bool) → has i (in_order x) ≡ y → Held s m
    go (no k) y e = refused_is_no_root t s m _ (outside_refused t (root x) i (omega arith)).2 f
    go (yes k) false e = refused_is_no_root t s m _ (absent_refused t x i h k e) f
    go (yes k) true e =
        let I = removal t x i h b n e in
        settled t s m _ I.table I.tree (in_order x) n I.only I.is I.holds I.balanced f

after_change : (t s : List ThreadRecord) (x : Tree) → length t ≤ max_records → Holds t x → Balanced x
    → length s ≤ max_records
    → ((j : ℕ) → contains t (root x) j ≡ (Ok true) → record_at s j ≡ record_at t j) → Held s (root x)
unfolding choose
after_change t s x n h b k f = record {
  small = k;
  tree = x;
  is = refl;
  holds = other_records t s x
      (λ j e. f j (contains_tells t x j h b n (held_inside t x j h e)
      ∙ ap (λ y. choose y (Ok true) (Ok false)) e)) h;
  balanced = b;
}

-- After any accepted calls from an empty tree the table holds a balanced tree in key order.
pub sound_held : {t : List ThreadRecord} {l : Option ℕ} → Sound t l → Held t l
sound_held (empty t n) = record { small = n; tree = leaf; is = refl; holds = holds_empty t; balanced = tt }
sound_held (inserted t s l m i p f) =
    let H = sound_held p in after_insert t s H.tree m i H.small H.holds H.balanced
    (subst (λ w. insert t w i ≡ out (Ok m) s) (sym H.is) f)
sound_held (removed t s l m i p f) =
    let H = sound_held p in after_remove t s H.tree m i H.small H.holds H.balanced
    (subst (λ w. remove t w i ≡ out (Ok m) s) (sym H.is) f)
sound_held (changed t s l p n f) =
    let H = sound_held p in
    subst (Held s) H.is (after_change t s H.tree H.small H.holds H.balanced n
    (λ j e. f j (subst (λ w. contains t w j ≡ (Ok true)) H.is e)))
