-- The answers that the check does not find by itself.
use native.Mathlib.Omega.{arith}
use Rattle.images.specs.EncodesLaws.{testings}
use Rattle.images.proofs.queue_rows.rows_encode.Goals as goal

pub loop-k-init : goal.loop-k-init
loop-k-init c = (omega arith, search testings depth 8)

pub returns-then-not-queue_row_encodes : goal.returns-then-not-queue_row_encodes
returns-then-not-queue_row_encodes c = search testings depth 8

pub loop-k-preserved : goal.loop-k-preserved
loop-k-preserved c = (omega arith, search testings depth 8)

pub returns : goal.returns
returns c = search testings depth 8
