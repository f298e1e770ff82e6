-- Times and texts as they are written, on which the definitions are judged.
use Rattle.std.specs.Prelude.{◌≡◌, refl, [], ◌∷◌}
use Rattle.refusal.specs.Cases.{choose, if_less, if_equal}
use Rattle.text.specs.Ascii.{ascii}
use Rattle.text.specs.Writing.{digits_within, digits_of}
use Rattle.text.specs.Times.{fraction_from, pointed, milliseconds_of}
use Rattle.text.specs.Escaping.{escaped_byte, escaped}

-- No time; whole milliseconds; a fraction; a nanosecond; zeros within a fraction; the greatest time.
pub times_judged :
    milliseconds_of 0
    ∷ milliseconds_of 7000000
    ∷ milliseconds_of 10200000
    ∷ milliseconds_of 1
    ∷ milliseconds_of 3050700
    ∷ milliseconds_of 18446744073709551615
    ∷ []
    ≡ ascii "0"
    ∷ ascii "7"
    ∷ ascii "10.2"
    ∷ ascii "0.000001"
    ∷ ascii "3.0507"
    ∷ ascii "18446744073709.551615"
    ∷ []
unfolding milliseconds_of digits_of digits_within pointed fraction_from choose if_less if_equal
times_judged = refl

-- Each byte that XML has for its marks, and others.
pub texts_judged : escaped (ascii "a<b> &\"c' 1") ≡ ascii "a&lt;b&gt; &amp;&quot;c&apos; 1"
unfolding escaped escaped_byte choose if_equal
texts_judged = refl
