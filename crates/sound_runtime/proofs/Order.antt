-- Turns handed out from one pair of counters are in order, and never repeat.
use Rattle.std.specs.Prelude.{ℕ, ◌-◌, ◌<◌, ◌≤◌, ◌≡◌, refl, Bool, true, false, List, [], ◌∷◌, eqb, Option}
use Rattle.std.proofs.Common.{arith, ne_eqb, eqb-true}
use Rattle.refusal.specs.Cases.{never, choose}
use Rattle.decisions.specs.declared.Turns.{Turns}
use Rattle.sound_runtime.specs.Handed.{Call, made, named, Handed, at_front, at_back, turn_of, handed, joined}
use Rattle.sound_runtime.specs.Handed.{handed_out, counters_after, counters_of, Before, BeforeAll, InOrder, among}
use Rattle.sound_runtime.specs.Handed.{NoRepeat}
use Rattle.sound_runtime.specs.Outcome.{Outcome, hands_nothing, hands_back, hands_front, outcome}

-- Every back turn lies at or above the back counter, every front turn below the front counter.
abbrev Beyond : Turns → List Handed → Type 0
Beyond c [] = Unit {0}
Beyond c (at_back n ∷ rest) = (c.back ≤ n) × Beyond c rest
Beyond c (at_front n ∷ rest) = (n < c.front) × Beyond c rest

weaker : (c d : Turns) (l : List Handed) → c.back ≤ d.back → d.front ≤ c.front → Beyond d l → Beyond c l
weaker c d [] b f h = tt
weaker c d (at_back n ∷ rest) b f h = let low : d.back ≤ n = h.0 in (omega arith, weaker c d rest b f h.1)
weaker c d (at_front n ∷ rest) b f h = let high : n < d.front = h.0 in (omega arith, weaker c d rest b f h.1)

beyond_by : (c d : Turns) (x : Option Handed) (rest : List Handed) → Outcome c d x → Beyond d rest
    → Beyond c (joined x rest)
unfolding joined
beyond_by c d x rest hands_nothing h = h
beyond_by c d x rest (hands_back l) h = (omega arith, weaker c d rest (omega arith) (omega arith) h)
beyond_by c d x rest (hands_front l) h = (omega arith, weaker c d rest (omega arith) (omega arith) h)

beyond : (calls : List Call) (c : Turns) → Beyond c (handed_out calls c)
unfolding handed_out
beyond [] c = tt
beyond (call ∷ rest) c =
    beyond_by c (counters_after (made call c)) (handed (made call c) (named call) c)
    (handed_out rest (counters_after (made call c)))
    (outcome call c) (beyond rest (counters_after (made call c)))

-- A back turn comes before all that later counters hand out, and so does a front turn.
back_first : (d : Turns) (n : ℕ) (l : List Handed) → n < d.back → d.front ≤ n → Beyond d l → BeforeAll (at_back n) l
back_first d n [] b f h = tt
back_first d n (at_back m ∷ rest) b f h = let low : d.back ≤ m = h.0 in (omega arith, back_first d n rest b f h.1)
back_first d n (at_front m ∷ rest) b f h =
    let high : m < d.front = h.0 in (omega arith, back_first d n rest b f h.1)

front_first : (d : Turns) (n : ℕ) (l : List Handed) → n < d.back → d.front ≤ n → Beyond d l → BeforeAll (at_front n) l
front_first d n [] b f h = tt
front_first d n (at_back m ∷ rest) b f h = let low : d.back ≤ m = h.0 in (omega arith, front_first d n rest b f h.1)
front_first d n (at_front m ∷ rest) b f h =
    let high : m < d.front = h.0 in (omega arith, front_first d n rest b f h.1)

order_by : (c d : Turns) (x : Option Handed) (rest : List Handed) → Outcome c d x → c.front ≤ c.back → Beyond d rest
    → (d.front ≤ d.back → InOrder rest) → InOrder (joined x rest)
unfolding joined
order_by c d x rest hands_nothing b h k = k b
order_by c d x rest (hands_back l) b h k = (back_first d c.back rest (omega arith) (omega arith) h, k (omega arith))
order_by c d x rest (hands_front l) b h k =
    (front_first d (c.front - 1) rest (omega arith) (omega arith) h, k (omega arith))

pub in_order_lem : (calls : List Call) (c : Turns) → c.front ≤ c.back → InOrder (handed_out calls c)
unfolding handed_out
in_order_lem [] c b = tt
in_order_lem (call ∷ rest) c b =
    order_by c (counters_after (made call c)) (handed (made call c) (named call) c)
    (handed_out rest (counters_after (made call c)))
    (outcome call c) b (beyond rest (counters_after (made call c))) (in_order_lem rest (counters_after (made call c)))

differs : (x y : Handed) → Before x y → (turn_of y ≡ turn_of x → ⊥)
differs (at_back n) (at_back m) h e = omega arith
differs (at_back n) (at_front m) h e = omega arith
differs (at_front n) (at_back m) h e = omega arith
differs (at_front n) (at_front m) h e = omega arith

not_among : (x : Handed) (l : List Handed) → BeforeAll x l → among (turn_of x) l ≡ false
unfolding among choose
not_among x [] h = refl
not_among x (y ∷ rest) h = rw (ne_eqb (turn_of y) (turn_of x) (differs x y h.0)) (not_among x rest h.1)

pub no_repeat : (l : List Handed) → InOrder l → NoRepeat l
no_repeat [] h = tt
no_repeat (x ∷ rest) h = (not_among x rest h.0, no_repeat rest h.1)

-- Calls only widen the counters.
pub widened : (calls : List Call) (c : Turns) → (c.back ≤ (counters_of calls c).back)
    × ((counters_of calls c).front ≤ c.front)
unfolding counters_of
widened [] c = (omega arith, omega arith)
widened (call ∷ rest) c =
    by (counters_after (made call c)) (handed (made call c) (named call) c) (outcome call c)
    (widened rest (counters_after (made call c)))
  where
    by : (d : Turns) (x : Option Handed) → Outcome c d x → (d.back ≤ (counters_of rest d).back)
        × ((counters_of rest d).front ≤ d.front)
        → (c.back ≤ (counters_of rest d).back) × ((counters_of rest d).front ≤ c.front)
    by d x hands_nothing h = h
    by d x (hands_back l) h =
        let low : d.back ≤ (counters_of rest d).back = h.0 in let high : (counters_of rest d).front ≤ d.front = h.1 in
        (omega arith, omega arith)
    by d x (hands_front l) h =
        let low : d.back ≤ (counters_of rest d).back = h.0 in let high : (counters_of rest d).front ≤ d.front = h.1 in
        (omega arith, omega arith)

here_or_later : (n : ℕ) (x : Handed) (l : List Handed) {A : Type 0} → among n (x ∷ l) ≡ true → (turn_of x ≡ n → A)
    → (among n l ≡ true → A) → A
unfolding among choose
here_or_later n x l {A} h f g = go (eqb (turn_of x) n) refl h
  where
    go : (b : Bool) → eqb (turn_of x) n ≡ b → choose b true (among n l) ≡ true → A
    go true e k = f (eqb-true (turn_of x) n e)
    go false e k = g k

-- Every turn that was handed out lies between the counters as the calls left them.
pub between : (calls : List Call) (c : Turns) → c.front ≤ c.back → (n : ℕ) → among n (handed_out calls c) ≡ true
    → ((counters_of calls c).front ≤ n) × (n < (counters_of calls c).back)
unfolding handed_out counters_of among joined
between [] c b n h = never cc
between (call ∷ rest) c b n h =
    by (counters_after (made call c)) (handed (made call c) (named call) c) (outcome call c)
    (widened rest (counters_after (made call c)))
    (λ o. between rest (counters_after (made call c)) o n) h
  where
    by : (d : Turns) (x : Option Handed) → Outcome c d x → (d.back ≤ (counters_of rest d).back)
        × ((counters_of rest d).front ≤ d.front)
        → (d.front ≤ d.back → among n (handed_out rest d) ≡ true
        → ((counters_of rest d).front ≤ n) × (n < (counters_of rest d).back))
        → among n (joined x (handed_out rest d)) ≡ true → ((counters_of rest d).front ≤ n)
        × (n < (counters_of rest d).back)
    by d x hands_nothing w k h = k b h
    by d x (hands_back l) w k h =
        let low : d.back ≤ (counters_of rest d).back = w.0 in let high : (counters_of rest d).front ≤ d.front = w.1 in
        here_or_later n (at_back c.back) (handed_out rest d) h (λ e. (omega arith, omega arith)) (k (omega arith))
    by d x (hands_front l) w k h =
        let low : d.back ≤ (counters_of rest d).back = w.0 in let high : (counters_of rest d).front ≤ d.front = w.1 in
        here_or_later n (at_front (c.front - 1)) (handed_out rest d) h (λ e. (omega arith, omega arith))
        (k (omega arith))
