-- Whether each part of a row that calls store is an encoding: the parts of crate images' test of a record.
use Rattle.std.specs.Prelude.{ℕ, Bool, List}
use Rattle.policy_words.specs.PolicyWords.{runtime_tag, runtime_first, runtime_second, runtime_third, runtime_fourth}
use Rattle.policy_words.specs.Encodes.{both, runtime_encodes}
use Rattle.codec.specs.Codec.{word}
use Rattle.images.specs.Encodes.{links_encode, queue_links_encode}

unfoldable pub parts_encode : List ℕ → Bool
parts_encode w =
    both (runtime_encodes (word w runtime_tag) (word w runtime_first) (word w runtime_second) (word w runtime_third)
    (word w runtime_fourth))
    (both (links_encode w) (queue_links_encode w))
