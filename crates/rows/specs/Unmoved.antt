-- What a refusal leaves, word for word. Contracts that speak of what words stand for say what the call leaves; these
-- say that where it is refused the words themselves are as they were.
use Rattle.std.specs.Prelude.{ℕ, ◌≤◌, ◌<◌, ◌≡◌, Bool, true, false, not, ◌≢◌}
use Rattle.std.proofs.Common.{arith}
use Rattle.refusal.specs.Answer.{Answer, value, refused, queue_halted}
use Rattle.refusal.specs.Cases.{never}

-- A refusal leaves what was there.
abbrev pub Unmoved : {A B : Type 0} → Answer A → B → B → Type 0
Unmoved (value a) before after = Unit {0}
Unmoved (refused n) before after = after ≡ before

-- A refusal with another number than this one does.
abbrev pub UnmovedBut : {A B : Type 0} → ℕ → Answer A → B → B → Type 0
UnmovedBut but (value a) before after = Unit {0}
UnmovedBut but (refused n) before after = n ≢ but → after ≡ before

-- A first Halted of the queue's calls leaves the source's stores up to there.
abbrev pub Spared : {A B : Type 0} → Answer A → B → B → Type 0
Spared a before after = UnmovedBut queue_halted a before after

-- What was not stored to is as it was, whatever the answer.
pub as_it_was : {A B : Type 0} {b c : B} (x : Answer A) → c ≡ b → Unmoved x b c
as_it_was (value a) e = tt
as_it_was (refused n) e = e

pub spared_as_it_was : {A B : Type 0} {b c : B} (but : ℕ) (x : Answer A) → c ≡ b → UnmovedBut but x b c
spared_as_it_was but (value a) e = tt
spared_as_it_was but (refused n) e = λ h. e

-- What was asked before did not hold.
pub held_not : {B : Type 0} (b c : B) (x : Bool) → x ≡ false → x ≡ true → c ≡ b
held_not b c true e f = never cc
held_not b c false e f = never cc

pub held : {B : Type 0} (b c : B) (x : Bool) → not x ≡ false → x ≡ false → c ≡ b
held b c true e f = never cc
held b c false e f = never cc

pub few_enough : {B : Type 0} (b c : B) (n m : ℕ) → m ≤ n → n < m → c ≡ b
few_enough b c n m l k = absurd (omega arith)

pub ruleset unmoving = (as_it_was, spared_as_it_was, held_not, held, few_enough)
