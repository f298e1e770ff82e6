-- The laws by which printing meets its promises.
use Rattle.std.specs.Prelude.{ℕ, ◌≤◌, ◌<◌, ◌≡◌, List, length}
use Rattle.std.proofs.Common.{ap, ◌∙◌, lt-ltb, le-ltb}
use Rattle.refusal.specs.Cases.{if_less, choose}
use Rattle.text.specs.Writing.{Page, page}
use Rattle.text.specs.Printing.{handed}

pub all_handed : (bytes : List ℕ) (n : ℕ) → n ≤ length bytes → n ≡ handed (page bytes n)
unfolding handed if_less choose
all_handed bytes n l = rw (le-ltb (length bytes) n l)

pub none_handed : (bytes : List ℕ) (n : ℕ) → length bytes < n → 0 ≡ handed (page bytes n)
unfolding handed if_less choose
none_handed bytes n l = rw (lt-ltb (length bytes) n l)

-- Of a page that was filled.
pub filled_handed : {bytes : List ℕ} {n r : ℕ} {p : Page} → page bytes n ≡ p → r ≡ handed (page bytes n) → r ≡ handed p
filled_handed e h = h ∙ ap handed e

pub ruleset printings = (all_handed, none_handed, filled_handed)
