-- The key is that of the record with this number.
use Rattle.thread.specs.TreeKey.{ready_index_key}
use Rattle.rows.specs.Table.{key_at}
use Rattle.rows.specs.PartLaws.{part_read}
use Rattle.rows.proofs.key_at.Goals as goal

pub returns : goal.returns
unfolding key_at
returns c =
    part_read _ _ (λ t. ready_index_key t c.args.i) c.read.ensures.inside c.read.ensures.outside
    (λ k e. let h = e.1 in search h)
