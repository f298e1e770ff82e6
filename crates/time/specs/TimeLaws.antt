-- Laws of epochs, periods and deadlines: what callers use instead of the definitions' text.
use Rattle.std.specs.Prelude.{ℕ, ◌-◌, ◌≤◌, min, max, ◌≡◌, true, ltb, Option, Some, None}
use Rattle.std.proofs.Common.{arith, sym, ◌∙◌}
use Rattle.time.specs.Time.{rises, period_start, charge_of, checked_add, period_end, earliest_of, on_deadline}

pub period_start_le : (now period : ℕ) → period_start now period ≤ now
unfolding period_start
period_start_le now period = omega arith

-- A period's end and a charge, by the start of the period.
pub end_from_start : (now period : ℕ) {start : ℕ} {r : Option ℕ} → start ≡ period_start now period
    → r ≡ checked_add start period → r ≡ period_end now period
unfolding period_end
end_from_start now period e h = rw (sym e) h

pub charge_from_start : (start end period : ℕ) {s m r : ℕ} → s ≡ period_start end period → m ≡ max start s → r ≡ end - m
    → r ≡ charge_of start end period
unfolding charge_of
charge_from_start start end period e f h = h ∙ rw (f, e)

pub rises_from_none : {x : Option ℕ} (e : ℕ) → x ≡ None → true ≡ rises x e
unfolding rises
rises_from_none e h = rw h

pub rises_from_some : {x : Option ℕ} {last : ℕ} (e : ℕ) → x ≡ Some last → ltb last e ≡ rises x e
unfolding rises
rises_from_some e h = rw h

pub earliest_left_none : {x : Option ℕ} (y : Option ℕ) → x ≡ None → y ≡ earliest_of x y
unfolding earliest_of
earliest_left_none y h = rw h

pub earliest_right_none : {x y : Option ℕ} {a : ℕ} → x ≡ Some a → y ≡ None
    → Some a ≡ earliest_of x y
unfolding earliest_of
earliest_right_none h k = rw (h, k)

pub earliest_both : {x y : Option ℕ} {a b r : ℕ} → x ≡ Some a → y ≡ Some b → r ≡ min a b
    → Some r ≡ earliest_of x y
unfolding earliest_of
earliest_both h k e = rw (h, k, e)

pub some_deadline : {A : Type 0} {y : A} (a : A) (f : ℕ → A) {r x : Option ℕ} {t : ℕ} → r ≡ x → r ≡ Some t
    → y ≡ f t → y ≡ on_deadline x a f
unfolding on_deadline
some_deadline a f e h k = rw (sym e ∙ h) k

pub no_deadline : {A : Type 0} {y : A} (a : A) (f : ℕ → A) {r x : Option ℕ} → r ≡ x → r ≡ None → y ≡ a
    → y ≡ on_deadline x a f
unfolding on_deadline
no_deadline a f e h k = rw (sym e ∙ h) k

pub ruleset times = (
  rises_from_none,
  rises_from_some,
  earliest_left_none,
  earliest_right_none,
  earliest_both,
  some_deadline,
  no_deadline,
)
