-- The shapes as templates: `%a` to `%d` are numbers, `%@` is the word.
use Rattle.std.specs.Prelude.{ℕ, List}
use Rattle.text.specs.Ascii.{ascii}

abbrev pub rectangle_text : List ℕ
rectangle_text = ascii "<rect x='%a' y='%b' width='%c' height='%d' fill='%@'/>\n"

abbrev pub label_text : List ℕ
label_text = ascii "<text x='%a' y='%b'>%@</text>\n"

abbrev pub mark_text : List ℕ
mark_text = ascii "<path d='M%a %b l-40 -70 h80 z'/>\n"

abbrev pub dashes_text : List ℕ
dashes_text = ascii "<path d='M%a %b V%c' stroke='#707070' stroke-dasharray='50 30'/>\n"
