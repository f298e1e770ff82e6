-- How much of a page is handed to the system.
use Rattle.std.specs.Prelude.{ℕ, length, replicate}
use Rattle.refusal.specs.Cases.{if_less}
use Rattle.text.specs.Writing.{Page, page}

-- All that is written; nothing where more is said to be written than the page has.
unfoldable pub handed : Page → ℕ
handed (page bytes n) = if_less (length bytes) n 0 n

-- The page of one print.
abbrev pub blank : Page
blank = page (replicate 512 0) 0
