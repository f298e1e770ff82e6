-- The answers that the check does not find by itself.
use native.Mathlib.Omega.{arith}
use Rattle.images.specs.BytesLaws.{bytings}
use borrow.Author.Rules.{rules}
use Rattle.images.proofs.queue_rows.put_rows.Goals as goal

pub loop-k-init : goal.loop-k-init
loop-k-init c = (omega arith, search rules, search bytings)

pub loop-k-preserved : goal.loop-k-preserved
loop-k-preserved c = (omega arith, search rules, search bytings)
