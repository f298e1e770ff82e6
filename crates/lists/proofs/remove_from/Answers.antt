-- The read, the three tests and the stores, in order.
use Rattle.refusal.specs.Cases.{cases}
use Rattle.rows.specs.TableCases.{queue_links_got}
use Rattle.lists.specs.ListsLaws.{listings}
use Rattle.lists.specs.Lists.{remove}
use Rattle.lists.proofs.remove_from.Goals as goal

pub returns-clause-t_after : goal.returns-clause-t_after
unfolding remove
returns-clause-t_after c =
    queue_links_got _ _ _ c.queue_links_at.ensures c.in_ok-links.was (search (cases, listings) depth 8)
