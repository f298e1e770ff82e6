-- The part of the record with this number.
use Rattle.codec.specs.Codec.{decoded}
use Rattle.rows.specs.Table.{links_at}
use Rattle.rows.specs.PartLaws.{part_read}
use Rattle.rows.proofs.links_at.Goals as goal

pub returns : goal.returns
unfolding links_at decoded
returns c = part_read _ _ (λ t. t.ready_tree) c.read.ensures.inside c.read.ensures.outside (λ l e. e.1)
