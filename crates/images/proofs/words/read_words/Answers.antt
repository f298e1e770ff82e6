-- The answers that the check does not find by itself.
use native.Mathlib.Omega.{arith}
use mathlib.Core.Path.{refl}
use Rattle.images.specs.BytesLaws.{bytings}
use borrow.Author.Rules.{rules}
use Rattle.images.proofs.words.read_words.Goals as goal

pub loop-i-init : goal.loop-i-init
loop-i-init c = (omega arith, refl, search bytings)

pub loop-i-preserved : goal.loop-i-preserved
loop-i-preserved c = (omega arith, search rules, search bytings)
