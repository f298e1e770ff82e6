-- The calls on a tree by itself. On up to 4,096 records, with a number of the table, they do what Demand2 says of the
-- queue's forms (what is refused before that is in specs/Calls.antt); accepted calls leave a sound tree sound.
use Rattle.std.specs.Prelude.{◌≡◌, Bool, List, ℕ, suc, ◌≤◌, ◌<◌, length, Option, Result, Ok, Err}
use Rattle.std.proofs.Math.Path.{refl, ap}
use Rattle.std.proofs.Common.{sym, ◌∙◌, arith}
use Rattle.std.proofs.Math.Bool.{true, false}
use Rattle.std.proofs.Math.Decide.{dec_le}
use Rattle.refusal.specs.Answer.{value, damaged, or_damaged}
use Rattle.refusal.specs.Cases.{never, choose}
use Rattle.avl.specs.Tree.{Tree, in_order, Balanced}
use Rattle.thread.specs.declared.ThreadRecord.{ThreadRecord}
use Rattle.rows.specs.Table.{Out, out, max_records}
use Rattle.rows.specs.Asked.{unchanged, answering}
use Rattle.ready_index.specs.Index.{insert, remove}
use Rattle.ready_index.specs.Calls.{first_call, contains_call, insert_call, remove_call}
use Rattle.sound_index.specs.Holds.{root, Holds, has}
use Rattle.sound_index.specs.Outcomes.{Inserted, Removed, least_of}
use Rattle.sound_index.proofs.Demand2.{held_inside, first_names_least, contains_tells, insertion, removal}
use Rattle.sound_index.proofs.Demand2.{equal_key_refused, absent_refused}
use Rattle.sound_index.specs.Sound.{Sound, inserted, removed}
use Rattle.sound_index.proofs.Soundness.{sound_held}
use Rattle.sound_index.specs.Calls.{first_is, outside_refused, call_is}
use Rattle.refusal.specs.declared.Damaged.{Damaged}

-- On a table of up to 4,096 records that holds a balanced tree.
module _ (t : List ThreadRecord) (x : Tree) (h : Holds t x) (b : Balanced x) (n : length t ≤ max_records) where
  pub first_call_lem : first_call t (root x) ≡ or_damaged (least_of (in_order x))
  first_call_lem = first_is t (root x) n ∙ ap or_damaged (first_names_least t x h b n)

  pub contains_call_lem : (i : ℕ) → i < length t → contains_call t (root x) i ≡ value (has i (in_order x))
  unfolding choose or_damaged
  contains_call_lem i l = (call_is t (root x) i n l).0 ∙ ap or_damaged (contains_tells t x i h b n l)
      ∙ told (has i (in_order x))
    where
      told : (y : Bool) → or_damaged (choose y (Ok true) (Ok false)) ≡ value y
      told true = refl
      told false = refl

  -- A thread that is not of the tree is put in: root and table are those of `insertion`.
  pub insert_call_lem : (i : ℕ) (l : i < length t) (e : has i (in_order x) ≡ false)
      → let I : Inserted t x i (insert t (root x) i) = insertion t x i h b n l e in
      insert_call t (root x) i ≡ out (value (root I.tree)) I.table
  unfolding answering or_damaged
  insert_call_lem i l e =
      (call_is t (root x) i n l).1 ∙ ap (answering or_damaged) (insertion t x i h b n l e).is

  -- A thread of the tree is taken out: root and table are those of `removal`.
  pub remove_call_lem : (i : ℕ) (e : has i (in_order x) ≡ true)
      → let R : Removed t x i (remove t (root x) i) = removal t x i h b n e in
      remove_call t (root x) i ≡ out (value (root R.tree)) R.table
  unfolding answering or_damaged
  remove_call_lem i e =
      (call_is t (root x) i n (held_inside t x i h e)).2 ∙ ap (answering or_damaged) (removal t x i h b n e).is

  -- An equal key, or a thread that the tree does not hold, is Damaged, and nothing changes.
  pub equal_key_damaged : (i : ℕ) → has i (in_order x) ≡ true → insert_call t (root x) i ≡ unchanged t damaged
  unfolding answering or_damaged
  equal_key_damaged i e =
      (call_is t (root x) i n (held_inside t x i h e)).1
      ∙ ap (answering or_damaged) (equal_key_refused t x i h b n e)

  pub absent_damaged : (i : ℕ) → i < length t → has i (in_order x) ≡ false
      → remove_call t (root x) i ≡ unchanged t damaged
  unfolding answering or_damaged
  absent_damaged i l e = (call_is t (root x) i n l).2 ∙ ap (answering or_damaged) (absent_refused t x i h l e)

-- What was answered as a value was answered as a root.
accepted : (o : Out (Result (Option ℕ) Damaged)) (m : Option ℕ) (s : List ThreadRecord)
    → answering or_damaged o ≡ out (value m) s
    → o ≡ out (Ok m) s
unfolding answering or_damaged
accepted (out (Ok l) t) m s e =
    let p : l ≡ m = cc in
    let q : t ≡ s = cc in
    rw (p, q)
accepted (out (Err _) t) m s e = never cc

-- Accepted calls on a tree by itself leave a sound tree sound.
module _ {t : List ThreadRecord} {l : Option ℕ} (S : Sound t l) (s : List ThreadRecord) (m : Option ℕ) (i : ℕ) where
  pub insert_call_sound : insert_call t l i ≡ out (value m) s → Sound s m
  insert_call_sound e = go (dec_le (suc i) (length t))
    where
      go : Dec (suc i ≤ length t) → Sound s m
      go (yes k) =
          inserted t s l m i S
          (accepted (insert t l i) m s (sym (call_is t l i (sound_held S).small k).1 ∙ e))
      go (no k) = let f = (outside_refused t l i (sound_held S).small (omega arith)).1 in never cc

  pub remove_call_sound : remove_call t l i ≡ out (value m) s → Sound s m
  remove_call_sound e = go (dec_le (suc i) (length t))
    where
      go : Dec (suc i ≤ length t) → Sound s m
      go (yes k) =
          removed t s l m i S
          (accepted (remove t l i) m s (sym (call_is t l i (sound_held S).small k).2 ∙ e))
      go (no k) = let f = (outside_refused t l i (sound_held S).small (omega arith)).2 in never cc
