-- The row is stored with this part, the others as they were.
use Rattle.thread.specs.Records.{with_links}
use Rattle.rows.specs.Table.{set_links}
use Rattle.rows.specs.PartLaws.{part_stored, part_framed}
use Rattle.rows.proofs.set_links.Goals as goal

pub returns-clause-t_after : goal.returns-clause-t_after
unfolding set_links
returns-clause-t_after c =
    part_stored _ _ (with_links c.args.links) c.store.ensures.inside c.store.ensures.outside (λ w e. e.1.0)

pub returns-clause-framed : goal.returns-clause-framed
returns-clause-framed c = part_framed _ _ c.store.ensures.inside c.store.ensures.outside (λ w e. e.1.1)
