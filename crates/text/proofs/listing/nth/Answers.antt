-- The name that many places on from here is the one that was asked for.
use Rattle.std.proofs.Common.{◌+◌, ◌-◌, arith, rules}
use Rattle.text.specs.ListsLaws.{countings, name_first, name_next, name_here, name_none}
use Rattle.text.proofs.listing.nth.Goals as goal

pub loop-init : goal.loop-init
loop-init c =
    let first = name_first c.args.between c.args.n (c.args.n - 0) c.args.list.now (omega arith) in
    (search rules, search rules, search rules, search rules, search countings, first)

pub returns-then-list-end-clause-list_value : goal.returns-then-list-end-clause-list_value
returns-then-list-end-clause-list_value c =
    let i = c.loop.invariant in
    name_none _ _ _ _ i.0 i.3 (c.args.n - c.loop.counter) i.5 (omega arith) (omega arith)

pub loop-preserved : goal.loop-preserved
loop-preserved c =
    let i = c.loop.invariant in (
      search rules,
      search rules,
      search rules,
      search rules,
      search countings,
      name_next _ _ _ _ i.0 i.3 (c.args.n - c.loop.counter) (c.args.n - (c.loop.counter + 1)) i.5 (omega arith),
    )

pub returns-clause-list_value : goal.returns-clause-list_value
returns-clause-list_value c =
    let i = c.loop.invariant in
    name_here _ _ _ _ i.0 i.3 (c.args.n - c.loop.counter) i.5 (omega arith)

pub returns-clause-start_value : goal.returns-clause-start_value
returns-clause-start_value c = search (rules, countings)
