-- Keys compare as ranks do, so that proofs may go by numbers.
use Rattle.std.specs.Prelude.{◌≡◌, refl, List, ℕ, zero, suc, ◌+◌, ◌≤◌, ◌<◌, length, Result, Ok, Err}
use Rattle.std.proofs.Common.{sym, ap, ◌∙◌, arith, le_refl}
use Rattle.std.proofs.Math.Decide.{dec_le}
use Rattle.std.specs.declared.cmp.Ordering.{Ordering}
use Rattle.std.specs.declared.cmp.Ordering.TheVariants.{Less, Equal, Greater}
use Rattle.order.specs.Order.{compare_numbers, compare_parts}
use Rattle.order.specs.StrictOrder.{compare_less, compare_equal, compare_greater, flipped, turned_about, same_key}
use Rattle.order.specs.StrictOrder.{equal_only, less_transitive}
use Rattle.thread.specs.declared.TreeKey.{TreeKey}
use Rattle.thread.specs.declared.ThreadRecord.{ThreadRecord}
use Rattle.thread.specs.TreeKey.{parts, compare_tree_keys}
use Rattle.rows.specs.Table.{key_at}
use Rattle.sound_index.specs.Holds.{Precedes}
use Rattle.rows.specs.TableLaws.{key_got_within}
use Rattle.sound_index.specs.TableLaws.{inside_key, key_id}
use Rattle.sound_index.specs.Rank.{one, lesser, tally, rank_of, rank}
use Rattle.refusal.specs.declared.Damaged.{Damaged}

one_most : (o : Ordering) → one o ≤ 1
one_most Less = omega arith
one_most Equal = omega arith
one_most Greater = omega arith

lesser_most : (k : Result TreeKey Damaged) (p : List ℕ) → lesser k p ≤ 1
lesser_most (Err _) p = omega arith
lesser_most (Ok k) p = one_most (compare_parts (parts k) p)

tally_most : (t : List ThreadRecord) (p : List ℕ) (n : ℕ) → tally t p n ≤ n
unfolding tally
tally_most t p zero = le_refl 0
tally_most t p (suc n) = omega (arith, lesser_most (key_at t n) p, tally_most t p n)

-- A rank is at most the number of records.
pub rank_most : (t : List ThreadRecord) (i : ℕ) → rank t i < suc (length t)
unfolding rank
rank_most t i = go (key_at t i)
  where
    go : (k : Result TreeKey Damaged) → rank_of t k < suc (length t)
    go (Err _) = omega arith
    go (Ok k) = omega (arith, tally_most t (parts k) (length t))

lesser_rises : (k : Result TreeKey Damaged) (p q : List ℕ) → compare_parts p q ≡ Less → lesser k p ≤ lesser k q
lesser_rises (Err _) p q h = le_refl 0
lesser_rises (Ok k) p q h = go (compare_parts (parts k) p) refl
  where
    go : (o : Ordering) → compare_parts (parts k) p ≡ o → one o ≤ one (compare_parts (parts k) q)
    go Less e = rw (less_transitive (parts k) p q e h) (le_refl 1)
    go Equal e = omega arith
    go Greater e = omega arith

tally_rises : (t : List ThreadRecord) (p q : List ℕ) (n : ℕ) → compare_parts p q ≡ Less → tally t p n ≤ tally t q n
unfolding tally
tally_rises t p q zero h = le_refl 0
tally_rises t p q (suc n) h = omega (arith, lesser_rises (key_at t n) p q h, tally_rises t p q n h)

-- Among the records counted is the one with the lesser key itself.
tally_strict : (t : List ThreadRecord) (i : ℕ) (a : TreeKey) (q : List ℕ) (n : ℕ) → key_at t i ≡ Ok a
    → compare_parts (parts a) q ≡ Less → i < n
    → tally t (parts a) n < tally t q n
unfolding tally
tally_strict t i a q zero e h l = absurd (omega arith)
tally_strict t i a q (suc n) e h l = go (dec_le (suc i) n) (λ l. tally_strict t i a q n e h l)
  where
    go : Dec (suc i ≤ n) → (i < n → tally t (parts a) n < tally t q n)
        → lesser (key_at t n) (parts a) + tally t (parts a) n < lesser (key_at t n) q + tally t q n
    go (yes p) f = omega (arith, lesser_rises (key_at t n) (parts a) q h, f p)
    go (no p) f =
        let same : i ≡ n = omega arith in
        let k : key_at t n ≡ Ok a = ap (key_at t) (sym same) ∙ e in
        rw (k, same_key (parts a), h) (omega (arith, tally_rises t (parts a) q n h))

rank_is : (t : List ThreadRecord) (i : ℕ) (a : TreeKey) → key_at t i ≡ Ok a
    → rank t i ≡ tally t (parts a) (length t)
unfolding rank
rank_is t i a e = ap (rank_of t) e

-- The lesser key has the lesser rank.
less_rank : (t : List ThreadRecord) (i j : ℕ) (a b : TreeKey) → i < length t → key_at t i ≡ Ok a
    → key_at t j ≡ Ok b
    → compare_parts (parts a) (parts b) ≡ Less → rank t i < rank t j
less_rank t i j a b l e f h = rw (rank_is t i a e, rank_is t j b f) (tally_strict t i a (parts b) (length t) e h l)

greater_turns : (a b : TreeKey) → compare_parts (parts a) (parts b) ≡ Greater → compare_parts (parts b) (parts a) ≡ Less
unfolding flipped
greater_turns a b h = turned_about (parts a) (parts b) ∙ ap flipped h

-- Keys compare as ranks do.
pub compare_ranks_lem : (t : List ThreadRecord) (i j : ℕ) (a b : TreeKey) → i < length t → j < length t
    → key_at t i ≡ Ok a → key_at t j ≡ Ok b
    → compare_tree_keys a b ≡ compare_numbers (rank t i) (rank t j)
unfolding compare_tree_keys
compare_ranks_lem t i j a b l m e f = go (compare_parts (parts a) (parts b)) refl
  where
    go : (o : Ordering) → compare_parts (parts a) (parts b) ≡ o
        → compare_parts (parts a) (parts b) ≡ compare_numbers (rank t i) (rank t j)
    go Less h = h ∙ sym (compare_less (rank t i) (rank t j) (less_rank t i j a b l e f h))
    go Equal h = h ∙ sym (compare_equal (rank t i) (rank t j)
        (rank_is t i a e ∙ ap (λ p. tally t p (length t)) (equal_only (parts a) (parts b) h) ∙ sym (rank_is t j b f)))
    go Greater h = h ∙ sym (compare_greater (rank t i) (rank t j) (less_rank t j i b a m f e (greater_turns a b h)))

-- A thread that precedes another has the lesser rank.
pub precedes_rank : (t : List ThreadRecord) (i j : ℕ) → Precedes t i j → rank t i < rank t j
unfolding compare_tree_keys
precedes_rank t i j p =
    less_rank t i j p.key p.other (key_got_within t i p.has_key) p.has_key p.has_other p.less

-- The lesser rank is that of a thread that precedes.
pub rank_precedes : (t : List ThreadRecord) (i j : ℕ) → i < length t → j < length t → rank t i < rank t j
    → Precedes t i j
rank_precedes t i j l m h =
    let a = inside_key t i l in
    let b = inside_key t j m in
    record {
      key = a.0;
      other = b.0;
      has_key = a.1;
      has_other = b.1;
      less = compare_ranks_lem t i j a.0 b.0 l m a.1 b.1 ∙ compare_less (rank t i) (rank t j) h;
    }

last_part : (a b : TreeKey) → parts a ≡ parts b → a.id ≡ b.id
unfolding parts
last_part a b e = cc

-- Keys end with the thread's number, so no two threads of a table have one rank.
pub rank_injective : (t : List ThreadRecord) (i j : ℕ) → i < length t → j < length t → rank t i ≡ rank t j → i ≡ j
unfolding compare_tree_keys
rank_injective t i j l m h =
    let a = inside_key t i l in
    let b = inside_key t j m in
    let e : compare_parts (parts a.0) (parts b.0) ≡ Equal = compare_ranks_lem t i j a.0 b.0 l m a.1 b.1
    ∙ compare_equal (rank t i) (rank t j) h in
    sym (key_id t i a.0 l a.1) ∙ last_part a.0 b.0 (equal_only (parts a.0) (parts b.0) e)
    ∙ key_id t j b.0 m b.1
