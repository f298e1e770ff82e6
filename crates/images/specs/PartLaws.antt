-- Laws of the parts: words that pass a part's test are the words of what they stand for; a part whose numbers fit their
-- types has words that pass the test and stand for it.
use Rattle.std.specs.Prelude.{ℕ, zero, suc, ◌+◌, ◌%◌, ◌<◌, ◌≡◌, refl, Bool, false, List, [], ◌∷◌, ltb, eqb, length}
use Rattle.std.specs.Prelude.{Option, Some, None}
use Rattle.std.specs.Prelude.{drop}
use Rattle.std.proofs.Common.{arith, sym, drop-cons}
use Rattle.std.proofs.Math.Bool.{true}
use Rattle.std.proofs.Math.Seq.{drop-length}
use borrow.Author.Tests.{ltb-true, eqb-true, eqb-false, lt-ltb}
use Rattle.refusal.specs.Cases.{choose, given, if_less, if_equal}
use Rattle.policy.specs.declared.SchedulingPolicy.{SchedulingPolicy}
use Rattle.policy.specs.declared.SchedulingPolicy.TheVariants as policy
use Rattle.policy.specs.declared.SchedulingRole.{SchedulingRole}
use Rattle.policy.specs.declared.SchedulingRole.TheVariants as role
use Rattle.policy.specs.declared.FairBackend.{FairBackend}
use Rattle.policy.specs.declared.FairBackend.TheVariants as backend
use Rattle.algorithms.specs.declared.PolicyRuntime.{PolicyRuntime}
use Rattle.algorithms.specs.declared.PolicyRuntime.TheVariants as runtime
use Rattle.thread.specs.declared.QueueMembership.{QueueMembership}
use Rattle.thread.specs.declared.QueueMembership.TheVariants as membership
use Rattle.codec.specs.Codec.{word, link_from, membership_from, policy_from, role_from, backend_from, budget_from}
use Rattle.codec.specs.Codec.{epoch_from}
use Rattle.codec.specs.Codec.{runtime_from}
use Rattle.window_words.specs.WindowWords.{flag_from}
use Rattle.lent_queue.specs.LentQueue.{halted_from}
use Rattle.images.specs.Fits.{PolicyFits, MembershipFits}
use Rattle.images.specs.Encoded.{laid_from, laid, policy_words_of, role_word, backend_word, budget_words, epoch_words}
use Rattle.images.specs.Encoded.{runtime_words, link_words, membership_words, flag_word}
use Rattle.images.specs.Encodes.{both, zeros, option_encodes, policy_encodes, budget_encodes, runtime_encodes}
use Rattle.images.specs.Encodes.{membership_encodes}
use Rattle.policy.specs.declared.BudgetParameters.{BudgetParameters}

-- What a test that holds says of its parts.
pub both_first : (a b : Bool) → both a b ≡ true → a ≡ true
unfolding choose
both_first true b h = refl
both_first false b h = h

pub both_second : (a b : Bool) → both a b ≡ true → b ≡ true
unfolding choose
both_second true b h = h
both_second false true h = refl
both_second false false h = h

pub both_hold : (a b : Bool) → a ≡ true → b ≡ true → both a b ≡ true
unfolding choose
both_hold a b e f = rw (e, f)

module _ (n m : ℕ) (b : Bool) where
  pub less_first : if_less n m b false ≡ true → n < m
  unfolding if_less
  less_first h = ltb-true n m (both_first (ltb n m) b h)

  pub less_second : if_less n m b false ≡ true → b ≡ true
  unfolding if_less
  less_second h = both_second (ltb n m) b h

  pub less_holds : n < m → b ≡ true → if_less n m b false ≡ true
  unfolding if_less
  less_holds h e = both_hold (ltb n m) b (lt-ltb n m h) e

  pub equal_first : if_equal n m b false ≡ true → n ≡ m
  unfolding if_equal
  equal_first h = eqb-true n m (both_first (eqb n m) b h)

  pub equal_second : if_equal n m b false ≡ true → b ≡ true
  unfolding if_equal
  equal_second h = both_second (eqb n m) b h

-- By which branch holds.
either_by : {A : Type 0} (t : Bool) (n m : ℕ) (x y : Bool) → eqb n m ≡ t → choose t x y ≡ true
    → (n ≡ m → x ≡ true → A) → (y ≡ true → A) → A
unfolding choose
either_by true n m x y e h f g = f (eqb-true n m e) h
either_by false n m x y e h f g = g h

either : {A : Type 0} (n m : ℕ) (x y : Bool) → if_equal n m x y ≡ true → (n ≡ m → x ≡ true → A) → (y ≡ true → A) → A
unfolding if_equal
either n m x y h f g = either_by (eqb n m) n m x y refl h f g

-- A number below another is the one before it, or below that.
last_by : {A : Type 0} (t : Bool) (n k : ℕ) → eqb k n ≡ t → k < suc n → (k ≡ n → A) → (k < n → A) → A
last_by true n k e h f g = f (eqb-true k n e)
last_by false n k e h f g = g (omega (arith, eqb-false k n e))

last : {A : Type 0} (n k : ℕ) → k < suc n → (k ≡ n → A) → (k < n → A) → A
last n k h f g = last_by (eqb k n) n k refl h f g

none_below : {A : Type 0} (k : ℕ) → k < 0 → A
none_below k h = absurd (omega arith)

pub zeros_first : (a b c : ℕ) → zeros a b c ≡ true → a ≡ 0
unfolding zeros
zeros_first a b c h = equal_first a 0 (if_equal b 0 (eqb c 0) false) h

pub zeros_second : (a b c : ℕ) → zeros a b c ≡ true → b ≡ 0
unfolding zeros
zeros_second a b c h = equal_first b 0 (eqb c 0) (equal_second a 0 (if_equal b 0 (eqb c 0) false) h)

pub zeros_third : (a b c : ℕ) → zeros a b c ≡ true → c ≡ 0
unfolding zeros
zeros_third a b c h =
    eqb-true c 0 (equal_second b 0 (eqb c 0) (equal_second a 0 (if_equal b 0 (eqb c 0) false) h))

-- A number within its type is its remainder.
pub byte_exact : (n : ℕ) → n < 256 → n % 256 ≡ n
byte_exact n h = omega arith

pub half_exact : (n : ℕ) → n < 65536 → n % 65536 ≡ n
half_exact n h = omega arith

-- Links and epochs.
module _ (t n : ℕ) where
  no_link : t ≡ 0 → n ≡ 0 → link_words (link_from t n) ≡ t ∷ n ∷ []
  unfolding link_from link_words if_equal choose
  no_link e f = rw (e, f)

  a_link_lem : t ≡ 1 → link_words (link_from t n) ≡ t ∷ n ∷ []
  unfolding link_from link_words if_equal choose
  a_link_lem e = rw e

  pub link_exact : option_encodes t n ≡ true → link_words (link_from t n) ≡ t ∷ n ∷ []
  unfolding option_encodes
  link_exact h = either t 0 (eqb n 0) (eqb t 1) h (λ e f. no_link e (eqb-true n 0 f)) (λ e. a_link_lem (eqb-true t 1 e))

  no_epoch : t ≡ 0 → n ≡ 0 → epoch_words (epoch_from t n) ≡ t ∷ n ∷ []
  unfolding epoch_from epoch_words if_equal choose
  no_epoch e f = rw (e, f)

  an_epoch : t ≡ 1 → epoch_words (epoch_from t n) ≡ t ∷ n ∷ []
  unfolding epoch_from epoch_words if_equal choose
  an_epoch e = rw e

  pub epoch_exact : option_encodes t n ≡ true → epoch_words (epoch_from t n) ≡ t ∷ n ∷ []
  unfolding option_encodes
  epoch_exact h =
      either t 0 (eqb n 0) (eqb t 1) h (λ e f. no_epoch e (eqb-true n 0 f)) (λ e. an_epoch (eqb-true t 1 e))

-- A policy with its priority.
module _ (t n : ℕ) where
  fifo : t ≡ 0 → n < 256 → policy_words_of (policy_from t n) ≡ t ∷ n ∷ []
  unfolding policy_from policy_words_of if_equal choose
  fifo e h = rw (e, byte_exact n h)

  fair : t ≡ 1 → n ≡ 0 → policy_words_of (policy_from t n) ≡ t ∷ n ∷ []
  unfolding policy_from policy_words_of if_equal choose
  fair e f = rw (e, f)

  with_budget : t ≡ 2 → n ≡ 0 → policy_words_of (policy_from t n) ≡ t ∷ n ∷ []
  unfolding policy_from policy_words_of if_equal choose
  with_budget e f = rw (e, f)

  idle : t ≡ 3 → n ≡ 0 → policy_words_of (policy_from t n) ≡ t ∷ n ∷ []
  unfolding policy_from policy_words_of if_equal choose
  idle e f = rw (e, f)

  no_fifo : t < 4 → n ≡ 0 → policy_words_of (policy_from t n) ≡ t ∷ n ∷ []
  no_fifo h f =
      last 3 t h (λ e. idle e f) (λ g. last 2 t g (λ e. with_budget e f) (λ k. last 1 t k (λ e. fair e f)
      (λ l. last 0 t l (λ e. fifo e (omega arith)) (none_below t))))

  pub policy_exact : policy_encodes t n ≡ true → policy_words_of (policy_from t n) ≡ t ∷ n ∷ []
  unfolding policy_encodes
  policy_exact h =
      either t 0 (ltb n 256) (if_less t 4 (eqb n 0) false) h (λ e f. fifo e (ltb-true n 256 f))
      (λ g. no_fifo (less_first t 4 (eqb n 0) g) (eqb-true n 0 (less_second t 4 (eqb n 0) g)))

-- A role, a backend and a flag.
module _ (t : ℕ) where
  ordinary : t ≡ 0 → role_word (role_from t) ≡ t
  unfolding role_from role_word if_equal choose
  ordinary e = rw e

  priority : t ≡ 1 → role_word (role_from t) ≡ t
  unfolding role_from role_word if_equal choose
  priority e = rw e

  protected : t ≡ 2 → role_word (role_from t) ≡ t
  unfolding role_from role_word if_equal choose
  protected e = rw e

  pub role_exact : t < 3 → role_word (role_from t) ≡ t
  role_exact h = last 2 t h protected (λ g. last 1 t g priority (λ k. last 0 t k ordinary (none_below t)))

  stride : t ≡ 0 → backend_word (backend_from t) ≡ t
  unfolding backend_from backend_word if_equal choose
  stride e = rw e

  round_robin_lem : t ≡ 1 → backend_word (backend_from t) ≡ t
  unfolding backend_from backend_word if_equal choose
  round_robin_lem e = rw e

  pub backend_exact : t < 2 → backend_word (backend_from t) ≡ t
  backend_exact h = last 1 t h round_robin_lem (λ g. last 0 t g stride (none_below t))

  flag_clear : t ≡ 0 → flag_word (flag_from t) ≡ t
  unfolding flag_from flag_word if_equal choose
  flag_clear e = rw e

  flag_set : t ≡ 1 → flag_word (flag_from t) ≡ t
  unfolding flag_from flag_word if_equal choose
  flag_set e = rw e

  pub flag_exact : t < 2 → flag_word (flag_from t) ≡ t
  flag_exact h = last 1 t h flag_set (λ g. last 0 t g flag_clear (none_below t))

  pub halted_exact : t < 2 → flag_word (halted_from t) ≡ t
  unfolding halted_from flag_from
  halted_exact h = flag_exact h

-- A budget.
module _ (t a b c : ℕ) where
  no_budget : t ≡ 0 → a ≡ 0 → b ≡ 0 → c ≡ 0 → budget_words (budget_from t a b c) ≡ t ∷ a ∷ b ∷ c ∷ []
  unfolding budget_from budget_words if_equal choose
  no_budget e f g h = rw (e, f, g, h)

  some_budget : t ≡ 1 → budget_words (budget_from t a b c) ≡ t ∷ a ∷ b ∷ c ∷ []
  unfolding budget_from budget_words if_equal choose
  some_budget e = rw e

  pub budget_exact : budget_encodes t a b c ≡ true → budget_words (budget_from t a b c) ≡ t ∷ a ∷ b ∷ c ∷ []
  unfolding budget_encodes
  budget_exact h =
      either t 0 (zeros a b c) (eqb t 1) h
      (λ e f. no_budget e (zeros_first a b c f) (zeros_second a b c f) (zeros_third a b c f))
      (λ e. some_budget (eqb-true t 1 e))

-- A policy's runtime.
module _ (t a b c d : ℕ) where
  abbrev RuntimeIs : Type 0
  RuntimeIs = runtime_words (runtime_from t a b c d) ≡ t ∷ a ∷ b ∷ c ∷ d ∷ []

  runs_fair : t ≡ 1 → d ≡ 0 → RuntimeIs
  unfolding runtime_from runtime_words if_equal choose
  runs_fair e f = rw (e, f)

  runs_budget : t ≡ 2 → option_encodes a b ≡ true → RuntimeIs
  unfolding runtime_from runtime_words if_equal choose given
  runs_budget e h = rw (e, epoch_exact a b h)

  no_runtime : t ≡ 0 → a ≡ 0 → b ≡ 0 → c ≡ 0 → d ≡ 0 → RuntimeIs
  unfolding runtime_from runtime_words if_equal choose
  no_runtime e f g h k = rw (e, f, g, h, k)

  runs_idle : t ≡ 3 → a ≡ 0 → b ≡ 0 → c ≡ 0 → d ≡ 0 → RuntimeIs
  unfolding runtime_from runtime_words if_equal choose
  runs_idle e f g h k = rw (e, f, g, h, k)

  none_set : a ≡ 0 → b ≡ 0 → option_encodes a b ≡ true
  unfolding option_encodes if_equal choose
  none_set e f = rw (e, f)

  runs_nothing : t < 4 → a ≡ 0 → b ≡ 0 → c ≡ 0 → d ≡ 0 → RuntimeIs
  runs_nothing h f g k l =
      last 3 t h (λ e. runs_idle e f g k l) (λ h₂. last 2 t h₂ (λ e. runs_budget e (none_set f g))
      (λ h₁. last 1 t h₁ (λ e. runs_fair e l) (λ h₀. last 0 t h₀ (λ e. no_runtime e f g k l) (none_below t))))

  abbrev nothing : Bool
  nothing = both (zeros a b c) (eqb d 0)

  pub runtime_exact : runtime_encodes t a b c d ≡ true → RuntimeIs
  unfolding runtime_encodes
  runtime_exact h =
      either t 1 (eqb d 0) (if_equal t 2 (option_encodes a b) (if_less t 4 nothing false)) h
      (λ e f. runs_fair e (eqb-true d 0 f))
      (λ g. either t 2 (option_encodes a b) (if_less t 4 nothing false) g (λ e f. runs_budget e f)
      (λ k.
      let z : nothing ≡ true = less_second t 4 nothing k in
      let w : zeros a b c ≡ true = both_first (zeros a b c) (eqb d 0) z in
      runs_nothing (less_first t 4 nothing k) (zeros_first a b c w) (zeros_second a b c w) (zeros_third a b c w)
      (eqb-true d 0 (both_second (zeros a b c) (eqb d 0) z))))

-- A membership.
module _ (t a b : ℕ) where
  abbrev MembershipIs : Type 0
  MembershipIs = membership_words (membership_from t a b) ≡ t ∷ a ∷ b ∷ []

  real_time_lem : t ≡ 1 → a < 256 → b < 256 → MembershipIs
  unfolding membership_from membership_words if_equal choose
  real_time_lem e h g = rw (e, byte_exact a h, byte_exact b g)

  ready_fair : t ≡ 2 → a < 256 → b ≡ 0 → MembershipIs
  unfolding membership_from membership_words if_equal choose
  ready_fair e h f = rw (e, byte_exact a h, f)

  waiting : t ≡ 3 → b ≡ 0 → MembershipIs
  unfolding membership_from membership_words if_equal choose
  waiting e f = rw (e, f)

  unqueued : t ≡ 0 → a ≡ 0 → b ≡ 0 → MembershipIs
  unfolding membership_from membership_words if_equal choose
  unqueued e f g = rw (e, f, g)

  terminated : t ≡ 4 → a ≡ 0 → b ≡ 0 → MembershipIs
  unfolding membership_from membership_words if_equal choose
  terminated e f g = rw (e, f, g)

  in_none_lem : t < 5 → a ≡ 0 → b ≡ 0 → MembershipIs
  in_none_lem h f g =
      last 4 t h (λ e. terminated e f g) (λ h₃. last 3 t h₃ (λ e. waiting e g)
      (λ h₂. last 2 t h₂ (λ e. ready_fair e (omega arith) g)
      (λ h₁. last 1 t h₁ (λ e. real_time_lem e (omega arith) (omega arith))
      (λ h₀. last 0 t h₀ (λ e. unqueued e f g) (none_below t)))))

  abbrev at_four : Bool
  at_four = if_less t 5 (zeros a b 0) false

  abbrev at_three : Bool
  at_three = if_equal t 3 (eqb b 0) at_four

  abbrev at_two : Bool
  at_two = if_equal t 2 (if_less a 256 (eqb b 0) false) at_three

  pub membership_exact : membership_encodes t a b ≡ true → MembershipIs
  unfolding membership_encodes
  membership_exact h =
      either t 1 (if_less a 256 (ltb b 256) false) at_two h
      (λ e f. real_time_lem e (less_first a 256 (ltb b 256) f) (ltb-true b 256 (less_second a 256 (ltb b 256) f)))
      (λ h₂. either t 2 (if_less a 256 (eqb b 0) false) at_three h₂
      (λ e f. ready_fair e (less_first a 256 (eqb b 0) f) (eqb-true b 0 (less_second a 256 (eqb b 0) f)))
      (λ h₃. either t 3 (eqb b 0) at_four h₃ (λ e f. waiting e (eqb-true b 0 f))
      (λ h₄.
      let z : zeros a b 0 ≡ true = less_second t 5 (zeros a b 0) h₄ in
      in_none_lem (less_first t 5 (zeros a b 0) h₄) (zeros_first a b 0 z) (zeros_second a b 0 z))))

-- The words of each part pass its test and stand for it.
pub link_passes : (l : Option ℕ) → option_encodes (word (link_words l) 0) (word (link_words l) 1) ≡ true
unfolding link_words option_encodes if_equal choose
link_passes None = refl
link_passes (Some n) = refl

pub link_stands : (l : Option ℕ) → link_from (word (link_words l) 0) (word (link_words l) 1) ≡ l
unfolding link_words link_from if_equal choose
link_stands None = refl
link_stands (Some n) = refl

pub epoch_passes : (x : Option ℕ) → option_encodes (word (epoch_words x) 0) (word (epoch_words x) 1) ≡ true
unfolding epoch_words option_encodes if_equal choose
epoch_passes None = refl
epoch_passes (Some n) = refl

pub epoch_stands : (x : Option ℕ) → epoch_from (word (epoch_words x) 0) (word (epoch_words x) 1) ≡ x
unfolding epoch_words epoch_from if_equal choose
epoch_stands None = refl
epoch_stands (Some n) = refl

-- Of either branch, and so of the one that is chosen.
chosen : {A : Type 0} (P : A → Type 0) (t : Bool) (x y : A) → P x → P y → P (choose t x y)
unfolding choose
chosen P true x y h g = h
chosen P false x y h g = g

pub policy_passes : (p : SchedulingPolicy) → PolicyFits p
    → policy_encodes (word (policy_words_of p) 0) (word (policy_words_of p) 1) ≡ true
unfolding policy_words_of policy_encodes if_equal if_less choose
policy_passes (policy.Fifo p) h = lt-ltb p.0 256 h
policy_passes policy.Fair h = refl
policy_passes policy.Budget h = refl
policy_passes policy.Idle h = refl

pub policy_stands : (p : SchedulingPolicy) → PolicyFits p
    → policy_from (word (policy_words_of p) 0) (word (policy_words_of p) 1) ≡ p
unfolding policy_words_of policy_from if_equal choose
policy_stands (policy.Fifo p) h = rw (byte_exact p.0 h)
policy_stands policy.Fair h = refl
policy_stands policy.Budget h = refl
policy_stands policy.Idle h = refl

pub policy_fits : (t n : ℕ) → PolicyFits (policy_from t n)
unfolding policy_from if_equal
policy_fits t n =
    chosen PolicyFits (eqb t 0) _ _ (omega arith) (chosen PolicyFits (eqb t 1) _ _ tt
    (chosen PolicyFits (eqb t 2) _ _ tt tt))

pub role_passes : (r : SchedulingRole) → role_word r < 3
unfolding role_word
role_passes role.Ordinary = omega arith
role_passes role.Priority = omega arith
role_passes role.Protected = omega arith

pub role_stands : (r : SchedulingRole) → role_from (role_word r) ≡ r
unfolding role_word role_from if_equal choose
role_stands role.Ordinary = refl
role_stands role.Priority = refl
role_stands role.Protected = refl

pub backend_passes : (b : FairBackend) → backend_word b < 2
unfolding backend_word
backend_passes backend.Stride = omega arith
backend_passes backend.RoundRobin = omega arith

pub backend_stands : (b : FairBackend) → backend_from (backend_word b) ≡ b
unfolding backend_word backend_from if_equal choose
backend_stands backend.Stride = refl
backend_stands backend.RoundRobin = refl

pub flag_passes : (b : Bool) → flag_word b < 2
unfolding flag_word
flag_passes true = omega arith
flag_passes false = omega arith

pub flag_stands : (b : Bool) → flag_from (flag_word b) ≡ b
unfolding flag_word flag_from if_equal choose
flag_stands true = refl
flag_stands false = refl

pub halted_stands : (b : Bool) → halted_from (flag_word b) ≡ b
unfolding halted_from flag_from
halted_stands b = flag_stands b

pub budget_passes : (b : Option BudgetParameters)
    → budget_encodes (word (budget_words b) 0) (word (budget_words b) 1) (word (budget_words b) 2)
    (word (budget_words b) 3)
    ≡ true
unfolding budget_words budget_encodes zeros if_equal choose
budget_passes None = refl
budget_passes (Some b) = refl

pub budget_stands : (b : Option BudgetParameters)
    → budget_from (word (budget_words b) 0) (word (budget_words b) 1) (word (budget_words b) 2)
    (word (budget_words b) 3) ≡ b
unfolding budget_words budget_from if_equal choose
budget_stands None = refl
budget_stands (Some b) = refl

pub runtime_passes : (r : PolicyRuntime)
    → runtime_encodes (word (runtime_words r) 0) (word (runtime_words r) 1) (word (runtime_words r) 2)
    (word (runtime_words r) 3) (word (runtime_words r) 4) ≡ true
unfolding runtime_words runtime_encodes zeros if_equal if_less choose
runtime_passes runtime.Fifo = refl
runtime_passes (runtime.Fair f) = refl
runtime_passes (runtime.Budget b) = epoch_passes b.epoch
runtime_passes runtime.Idle = refl

pub runtime_stands : (r : PolicyRuntime)
    → runtime_from (word (runtime_words r) 0) (word (runtime_words r) 1) (word (runtime_words r) 2)
    (word (runtime_words r) 3) (word (runtime_words r) 4) ≡ r
unfolding runtime_words runtime_from given if_equal choose
runtime_stands runtime.Fifo = refl
runtime_stands (runtime.Fair f) = refl
runtime_stands (runtime.Budget b) = rw (epoch_stands b.epoch)
runtime_stands runtime.Idle = refl

pub membership_passes : (m : QueueMembership) → MembershipFits m
    → membership_encodes (word (membership_words m) 0) (word (membership_words m) 1) (word (membership_words m) 2)
    ≡ true
unfolding membership_words membership_encodes zeros if_equal if_less choose
membership_passes membership.None h = refl
membership_passes (membership.ReadyRealTime c p) h = less_holds c.0 256 (ltb p 256) h.0 (lt-ltb p 256 h.1)
membership_passes (membership.ReadyFair c) h = less_holds c.0 256 true h refl
membership_passes (membership.Waiting q) h = refl
membership_passes membership.Terminated h = refl

pub membership_stands : (m : QueueMembership) → MembershipFits m
    → membership_from (word (membership_words m) 0) (word (membership_words m) 1) (word (membership_words m) 2) ≡ m
unfolding membership_words membership_from if_equal choose
membership_stands membership.None h = refl
membership_stands (membership.ReadyRealTime c p) h = rw (byte_exact c.0 h.0, byte_exact p h.1)
membership_stands (membership.ReadyFair c) h = rw (byte_exact c.0 h)
membership_stands (membership.Waiting q) h = refl
membership_stands membership.Terminated h = refl

pub membership_fits : (t a b : ℕ) → MembershipFits (membership_from t a b)
unfolding membership_from if_equal
membership_fits t a b =
    chosen MembershipFits (eqb t 0) _ _ tt (chosen MembershipFits (eqb t 1) _ _ (omega arith, omega arith)
    (chosen MembershipFits (eqb t 2) _ _ (omega arith) (chosen MembershipFits (eqb t 3) _ _ tt tt)))

-- All words of a list of so many.
laid_behind : (n k : ℕ) (w : List ℕ) → length w ≡ k + n → laid_from k n w [] ≡ drop k w
laid_behind zero k w h =
    let all : k ≡ length w = omega arith in
    sym (rw all (drop-length w))
laid_behind (suc n) k w h = rw (laid_behind n (suc k) w (omega arith)) (sym (drop-cons w k 0 (omega arith)))

pub laid_all : (n : ℕ) (w : List ℕ) → length w ≡ n → laid n w [] ≡ w
laid_all n w h = laid_behind n 0 w (omega arith)

pub ruleset parts = (both_first, both_second, less_first, less_second)

pub ruleset wholes = (both_hold, less_holds)
