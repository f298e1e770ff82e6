-- What the numbers of an entry stand for, and the numbers of its answer: document 01's number first, 0 where the call
-- was accepted; a refusal's values are 0.
use Rattle.std.specs.Prelude.{ℕ, Bool, true, false, Option, Some, None}
use Rattle.refusal.specs.Answer.{Answer, value, refused}
use Rattle.thread.specs.declared.ThreadQueue.{ThreadQueue}
use Rattle.codec.specs.Codec.{link_from}
use Rattle.row_entries.specs.declared.ContainsAnswer.{ContainsAnswer}
use Rattle.row_entries.specs.declared.IndexAnswer.{IndexAnswer}
use Rattle.row_entries.specs.declared.LinkWords.{LinkWords}
use Rattle.row_entries.specs.declared.ListAnswer.{ListAnswer}

-- A list by its head's two numbers, its tail's two and its length.
unfoldable pub list_from : ℕ → ℕ → ℕ → ℕ → ℕ → ThreadQueue
list_from head_some head tail_some tail len =
    record { head = link_from head_some head; tail = link_from tail_some tail; len = len }

abbrev pub nothing : LinkWords
nothing = record { some = 0; number = 0 }

unfoldable pub link_words : Option ℕ → LinkWords
link_words None = nothing
link_words (Some n) = record { some = 1; number = n }

unfoldable pub list_words : Answer ThreadQueue → ListAnswer
list_words (value q) = record { number = 0; head = link_words q.head; tail = link_words q.tail; len = q.len }
list_words (refused n) = record { number = n; head = nothing; tail = nothing; len = 0 }

-- The least thread, or the root afterwards; of a refused call none, since the tree's root is then the caller's old one.
unfoldable pub index_words : Answer (Option ℕ) → IndexAnswer
index_words (value l) = record { number = 0; thread = link_words l }
index_words (refused n) = record { number = n; thread = nothing }

unfoldable pub contains_words : Answer Bool → ContainsAnswer
contains_words (value true) = record { number = 0; holds = 1 }
contains_words (value false) = record { number = 0; holds = 0 }
contains_words (refused n) = record { number = n; holds = 0 }
