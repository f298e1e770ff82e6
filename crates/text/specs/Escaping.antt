-- Text as XML has it between its marks and in its attributes.
use Rattle.std.specs.Prelude.{ℕ, List, [], ◌∷◌, ◌++◌}
use Rattle.refusal.specs.Cases.{if_equal}
use Rattle.text.specs.Ascii.{ascii}

-- The bytes by which XML has marks, by their names: & < > " '.
unfoldable pub escaped_byte : ℕ → List ℕ
escaped_byte b =
    if_equal b 38 (ascii "&amp;")
    (if_equal b 60 (ascii "&lt;")
    (if_equal b 62 (ascii "&gt;") (if_equal b 34 (ascii "&quot;") (if_equal b 39 (ascii "&apos;") (b ∷ [])))))

unfoldable pub escaped : List ℕ → List ℕ
escaped [] = []
escaped (b ∷ rest) = escaped_byte b ++ escaped rest
