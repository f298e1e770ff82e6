-- Orders: of numbers part by part, and of what candidates ask for together.
use Rattle.std.specs.Prelude.{ℕ, ◌≡◌, Bool, true, List, [], ◌∷◌, ◌++◌, Option, Some, None}
use Rattle.std.specs.declared.cmp.Ordering.TheVariants.{Less}
use Rattle.order.specs.Order.{compare_parts}
use Rattle.algorithms.specs.declared.Wide.{Wide}
use Rattle.arbitration.specs.declared.Candidate.{Candidate}
use Rattle.dispatch_keys.specs.declared.DispatchKey.{DispatchKey}
use Rattle.arbitration.specs.Key.{key_parts}
use Rattle.selection.specs.declared.ReadyThread.{ReadyThread}
use Rattle.demands.specs.declared.Gathered.{Gathered}
use Rattle.demands.specs.Demands.{gathered, nothing_gathered}

-- Less, or the same.
pub data AtMost (a b : List ℕ) : Type 0 where
  less : compare_parts a b ≡ Less → AtMost a b
  same : a ≡ b → AtMost a b

abbrev pub Implies : Bool → Bool → Type 0
Implies x y = x ≡ true → y ≡ true

abbrev pub pass_parts : Wide → List ℕ
pass_parts p = p.high ∷ p.low ∷ []

-- The second pass is as low.
abbrev pub PassWithin : Option Wide → Option Wide → Type 0
PassWithin None y = Unit {0}
PassWithin (Some a) None = ⊥
PassWithin (Some a) (Some b) = AtMost (pass_parts b) (pass_parts a)

-- The second asks for all that the first does, and its lowest pass is as low.
pub record Within (a b : Gathered) : Type 0 where
  pub protected : Implies a.demand.protected b.demand.protected
  pub fair : Implies a.demand.fair b.demand.fair
  pub sensitive : Implies a.demand.window_sensitive b.demand.window_sensitive
  pub eligible : Implies a.demand.eligible_budget b.demand.eligible_budget
  pub any : Implies a.demand.any_budget b.demand.any_budget
  pub lowest : PassWithin a.fair_min_pass b.fair_min_pass

-- What one candidate asks for by itself.
abbrev pub alone : Candidate → Gathered
alone c = gathered nothing_gathered c

-- A key with its thread's number: what selection compares.
abbrev pub pair_parts : DispatchKey → ℕ → List ℕ
pair_parts k i = key_parts k ++ (i ∷ [])

-- There is one, and it is at most that.
abbrev pub Under : Option ReadyThread → List ℕ → Type 0
Under None n = ⊥
Under (Some r) n = AtMost (pair_parts r.key r.id.0) n

-- P of the one that there is.
abbrev pub Every : (ReadyThread → Type 0) → Option ReadyThread → Type 0
Every P None = Unit {0}
Every P (Some r) = P r
