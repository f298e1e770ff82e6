-- Laws of the lent path: a step pushed, popped, and what a store above leaves.
use Rattle.std.specs.Prelude.{◌≡◌, ◌≢◌, length, get_or, set}
use Rattle.std.proofs.Math.Path.{refl}
use mathlib.Core.List.{List, [], ◌∷◌}
use native.Mathlib.Omega.{arith}
use Rattle.std.proofs.Common.{add-one, get_or-set_other}
use Rattle.std.proofs.Math.Numerals.{unary_clauses}
use Prim.Native.Nat.{ℕ, zero, suc, ◌+◌, ◌-◌, ◌<◌, ◌≤◌}
use Rattle.std.proofs.Math.Seq.{get_or-set_same}
use Rattle.ready_index.specs.Path.{step_of, stack}

module _ (rows : List (List ℕ)) (first : ℕ) where
  -- A store at or above the end of a part of the path leaves that part.
  pub kept : (k n : ℕ) (row : List ℕ) → first + n ≤ k → stack (set rows k row) first n ≡ stack rows first n
  unfolding stack
  kept k zero row h = refl
  kept k (suc n) row h =
      let other : first + n ≢ k = omega arith in
      let less : first + n ≤ k = omega arith in
      rw (get_or-set_other rows k (first + n) row [] other, kept k n row less)

  pub push : (k n : ℕ) (row : List ℕ) → k ≡ first + n → k < length rows
      → stack (set rows k row) first (n + 1) ≡ step_of row ∷ stack rows first n
  unfolding stack
  push k n row e h =
      let within : first + n ≤ k = omega arith in
      rw (add-one, ← e, get_or-set_same rows k row [] h, kept k n row within)

  pub pop : (n : ℕ) → 0 < n → stack rows first n ≡ step_of (get_or rows (first + (n - 1)) []) ∷ stack rows first (n - 1)
  unfolding stack
  pop zero h = absurd (omega arith)
  pop (suc n) h = simp unary_clauses

  pub no_steps : (n : ℕ) → n ≤ 0 → stack rows first n ≡ []
  unfolding stack
  no_steps zero h = refl
  no_steps (suc n) h = absurd (omega arith)
