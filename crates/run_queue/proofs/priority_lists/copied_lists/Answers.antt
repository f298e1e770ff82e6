-- Each list is made of its row.
use Rattle.std.proofs.Common.{rules, refl, arith, [], get_or}
use Rattle.lent_queue.specs.LentQueue.{priorities, list_from}
use Rattle.run_queue.specs.ValueLaws.{made_at, lists_made}
use Rattle.run_queue.proofs.priority_lists.copied_lists.Goals as goal

pub returns : goal.returns
returns c =
    let all = c.from_fn.ensures.items in
    let rows = c.args.rows.now in
    lists_made rows all.long c.requires
    (λ k d h. made_at _ _ (λ i. list_from (get_or rows i [])) (λ i y q called. search rules) k _
    c.from_fn.result 0 priorities k d (omega arith) h refl all.each)
