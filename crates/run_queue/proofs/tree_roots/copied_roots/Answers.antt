-- Each root is made of its row.
use Rattle.std.proofs.Common.{rules, refl, arith}
use Rattle.lent_queue.specs.LentQueue.{tree_count}
use Rattle.renewal.specs.Renewal.{root_at}
use Rattle.renewal.specs.RootRows.{roots_of}
use Rattle.run_queue.specs.ValueLaws.{made_at, roots_made}
use Rattle.run_queue.proofs.tree_roots.copied_roots.Goals as goal

pub returns : goal.returns
returns c =
    let all = c.from_fn.ensures.items in
    let rows = c.args.rows.now in
    roots_made rows all.long c.requires
    (λ k d h. made_at _ _ (λ i. record { root = root_at (roots_of rows) i }) (λ i y q called. search rules) k _
    c.from_fn.result 0 tree_count k d (omega arith) h refl all.each)
