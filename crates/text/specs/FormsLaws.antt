-- Laws of forms: what a word is found to be, and how the loop goes from word to word.
use Rattle.std.specs.Prelude.{ℕ, ◌+◌, ◌-◌, ◌<◌, ◌≤◌, ◌≡◌, Bool, true, false, List, [], ◌∷◌, length, take, get_or, set}
use Rattle.std.specs.Prelude.{Option, None, Some, Ok, Err}
use denote.Param.Members.{Mut}
use denote.Ref.{Bor}
use Rattle.std.specs.declared.slice.Split.{Split}
use Rattle.std.specs.Slice.Iter as slice
use Rattle.std.specs.Bool.{MatchBool}
use Rattle.std.specs.Fn.{ComputesKey, CalledAt}
use Rattle.std.specs.List.{All, slice_split, IsFirstMatchOrLen}
use Rattle.std.specs.Prelude.{cond, eqb, ◌++◌}
use Rattle.std.proofs.lemmas.Fn.{always_returns_same}
use Rattle.std.proofs.lemmas.Grind.{common_steps}
use Rattle.std.proofs.lemmas.List.Splits.{slice_split_none, slice_split_at}
use Rattle.std.proofs.Common.{subst}
use Rattle.text.specs.ListsLaws.{names_are}
use Rattle.std.proofs.Common.{arith, ◌∙◌, length-drop, take_all, drop-drop}
use Rattle.std.proofs.Math.Path.{refl, sym, ap}
use Rattle.std.proofs.Math.ListN.{drop}
use Rattle.refusal.specs.Cases.{choose, given, holds, fails, less, not_less, is}
use Rattle.text.specs.Reading.{before, run, same_bytes, Decimal, decimal_of}
use Rattle.text.specs.Lists.{part, names_of, place_in}
use Rattle.text.specs.declared.reading.NumberError.TheVariants as error
use Rattle.text.specs.declared.forms.Cause.{Cause}
use Rattle.text.specs.declared.forms.Cause.TheVariants as cause
use Rattle.text.specs.Forms.{Fitted, fitted, is_empty, next_word, behind_word, one_of, asked_of}
use Rattle.text.specs.Forms.{Step, step_by, on_step, last_of, fit_from}

-- The word at the place that was found, if it is there.
module _ (list word : List ℕ) (n start end : ℕ) {r : Bool} (place : n ≡ place_in word (names_of 124 list))
    (found : part start end list ≡ get_or (names_of 124 list) n [])
    (is : r ≡ same_bytes (part start end list) word) where
  there : one_of list word ≡ choose r (Ok n) (Err cause.OtherWord)
  unfolding one_of given
  there = rw (is, found, place)

  pub one_found : r ≡ true → Ok n ≡ one_of list word
  unfolding choose
  one_found t = sym (there ∙ ap (λ b. choose b (Ok n) (Err cause.OtherWord)) t)

  pub none_found : r ≡ false → Err cause.OtherWord ≡ one_of list word
  unfolding choose
  none_found t = sym (there ∙ ap (λ b. choose b (Ok n) (Err cause.OtherWord)) t)

pub ruleset findings = (one_found, none_found)

-- The number behind the first byte.
pub none_behind : (word : List ℕ) → length word ≡ 0 → Err error.NoNumeral ≡ decimal_of (drop 1 word)
unfolding decimal_of choose
none_behind [] h = refl
none_behind (x ∷ rest) h = absurd (omega arith)

module _ (word : List ℕ) where
  pub all_behind : {r : Decimal} → r ≡ decimal_of (take (length word - 1) (drop 1 word)) → r ≡ decimal_of (drop 1 word)
  all_behind e = e ∙ ap decimal_of (take_all (length word - 1) (drop 1 word) (rw (length-drop 1 word) (omega arith)))

pub ruleset behinds = (none_behind, all_behind)

-- The next word of a line from a place on, and the line behind it.
module _ (line : List ℕ) (from start end : ℕ) (starts : start ≡ from + run 32 (drop from line))
    (ends : end ≡ start + before 32 (drop start line)) where
  at_start : drop (run 32 (drop from line)) (drop from line) ≡ drop start line
  at_start = drop-drop (run 32 (drop from line)) from line ∙ ap (λ i. drop i line) (sym starts)

  size : end - start ≡ before 32 (drop start line)
  size = omega arith

  pub next_word_lem : part start end line ≡ next_word (drop from line)
  unfolding next_word given
  next_word_lem = rw (at_start, size)

  pub behind_word_lem : drop end line ≡ behind_word (drop from line)
  unfolding behind_word given
  behind_word_lem = rw at_start (ap (λ i. drop i line) ends ∙ sym (drop-drop (before 32 (drop start line)) start line))

-- Of a form that ends, by that word.
module _ (word : List ℕ) {r : Bool} {next : List ℕ} (is : r ≡ is_empty word) (found : word ≡ next) where
  pub no_word : r ≡ true → None ≡ last_of next
  unfolding last_of
  no_word t = holds _ _ (is ∙ ap is_empty found) t refl

  pub one_word : r ≡ false → Some cause.TooMany ≡ last_of next
  unfolding last_of
  one_word t = fails _ _ (is ∙ ap is_empty found) t refl

pub ruleset lasts = (no_word, one_word)

-- What a word of a form asks for starts behind its colon.
module _ (form : List ℕ) (n : ℕ) (colon : n ≡ 0 + before 58 (drop 0 form)) where
  its_colon : n ≡ before 58 form
  its_colon = omega arith

  pub asked_behind : n < length form → drop (n + 1) form ≡ asked_of form
  unfolding asked_of
  asked_behind h = is _ its_colon (less _ _ _ _ h refl)

  pub asked_whole : length form ≤ n → drop 0 form ≡ asked_of form
  unfolding asked_of
  asked_whole h = is _ its_colon (not_less _ _ _ _ h refl)

pub ruleset askings = (asked_behind, asked_whole)

-- The words of a form that a split has still to give, and how a step takes off the first of them.
abbrev pub words_left : {F : Type 0} → Split ℕ F → List (List ℕ)
words_left s = cond (slice.split_done s) [] (names_of 32 (slice.split_rest s))

part_first : (p : ℕ → Bool) (xs x rest : List ℕ) (done : Bool)
    → MatchBool done (xs ≡ x) ((y : ℕ) × (xs ≡ x ++ (y ∷ rest))) → IsFirstMatchOrLen p xs (length x)
    → slice_split p xs ≡ x ∷ cond done [] (slice_split p rest)
part_first p xs x rest true e h =
    ap (slice_split p) e
    ∙ slice_split_none p x (λ k d l. subst (λ ys. p (get_or ys k d) ≡ false) e (h.0 k d (omega arith) l))
part_first p xs x rest false e h =
    let front : All (λ z. p z ≡ false) x =
    λ k d l. let a = h.0 k d (omega arith) l in let b = e.1 in grind (arith, common_steps) in
    let hit : p e.0 ≡ true =
    let b = e.1 in let a = h.1 (grind (arith, common_steps)) e.0 in grind (arith, common_steps) in
    ap (slice_split p) e.1 ∙ slice_split_at p x e.0 rest front hit

pub word_next : {F : Type 0} (g : Mut F (Bor ℕ × Unit {0}) Bool) (s t : Split ℕ F) (x : Bor (List ℕ))
    → slice.split_steps g s (Some x) t
    → ((y : ℕ) (b : Bool) (q : F) → CalledAt g (slice.split_callee s) y b q
    → (q ≡ slice.split_callee s) × (b ≡ eqb y 32))
    → words_left s ≡ x.now ∷ words_left t
word_next g s t x k tests =
    let p : ℕ → Bool = λ y. eqb y 32 in
    let key : ComputesKey g p (slice.split_callee s) =
    always_returns_same g (λ a r. r ≡ p a.0.now) (slice.split_callee s)
    (λ a r q h. let m = tests a.0.now r q (record { shown = a.0; shows = refl; called = h }) in (m.1, m.0)) in
    ap (λ b. cond b [] (names_of 32 (slice.split_rest s))) k.0
    ∙ names_are 32 (slice.split_rest s)
    ∙ part_first p (slice.split_rest s) x.now (slice.split_rest t) (slice.split_done t) k.1 (k.2 p key).1
    ∙ ap (λ l. x.now ∷ cond (slice.split_done t) [] l) (sym (names_are 32 (slice.split_rest t)))

-- From word to word of the form, where so much of the line is left.
module _ (names : List ℕ) (count room k : ℕ) (forms : List (List ℕ)) (left values : List ℕ) {w : Fitted}
    (so_far : fit_from names count room forms left k values ≡ w) where
  module _ {form word : List ℕ} {more : List (List ℕ)} {r : Step} (first : forms ≡ form ∷ more)
      (next : word ≡ next_word left) (is : r ≡ step_by names count room form word) where
    stepped : on_step r (λ n. fit_from names count room more (behind_word left) (k + 1) (set values k n))
        (fit_from names count room more left (k + 1) (set values k 1)) (λ c. fitted c k (length left) values)
        ≡ w
    unfolding fit_from
    stepped = rw (is, next) (rw first at so_far)

    pub fits_taken : {behind now : List ℕ} {s : Option ℕ} {n : ℕ} → r ≡ Ok s → s ≡ Some n → behind ≡ behind_word left
        → now ≡ set values k n → fit_from names count room more behind (k + 1) now ≡ w
    unfolding on_step
    fits_taken e f b s = rw (b, s) (rw (e, f) at stepped)

    pub fits_rest : {behind now : List ℕ} {s : Option ℕ} → r ≡ Ok s → s ≡ None → behind ≡ left
        → now ≡ set values k 1 → fit_from names count room more behind (k + 1) now ≡ w
    unfolding on_step
    fits_rest e f b s = rw (b, s) (rw (e, f) at stepped)

    pub fits_over : {c : Option Cause} {n : ℕ} → r ≡ Err c → n ≡ length left → fitted c k n values ≡ w
    unfolding on_step
    fits_over e l = rw l (rw e at stepped)

  pub fits_all : {c : Option Cause} {n : ℕ} → forms ≡ [] → c ≡ last_of (next_word left) → n ≡ length left
      → fitted c k n values ≡ w
  unfolding fit_from
  fits_all h e l = rw (e, l) (rw h at so_far)

-- How much of a line is left from a place on.
pub left_over : (from : ℕ) (line : List ℕ) → length line - from ≡ length (drop from line)
left_over from line = sym (length-drop from line)
