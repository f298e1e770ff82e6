-- The part of the record with this number.
use Rattle.codec.specs.Codec.{decoded}
use Rattle.rows.specs.Table.{queue_links_at}
use Rattle.rows.specs.PartLaws.{part_read}
use Rattle.rows.proofs.queue_links_at.Goals as goal

pub returns : goal.returns
unfolding queue_links_at decoded
returns c = part_read _ _ (λ t. t.queue_links) c.read.ensures.inside c.read.ensures.outside (λ l e. e.1)
