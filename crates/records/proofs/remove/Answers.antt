-- Too few rows, or the call on the rows with the records copied there and back (Laws).
use Rattle.std.proofs.Common.{List}
use Rattle.refusal.specs.Answer.{refused, bad_table}
use Rattle.thread.specs.declared.ThreadRecord.{ThreadRecord}
use Rattle.queue.specs.Queue.{step, remove_call}
use Rattle.lent_queue.specs.LentQueue.{queue_of}
use Rattle.records.proofs.Laws.{too_few, none_worked, called}
use Rattle.records.proofs.remove.Goals as goal

pub returns-then-rows-n-clause-t_after : goal.returns-then-rows-n-clause-t_after
returns-then-rows-n-clause-t_after c = (too_few _ _ _ _ c.if-rows-n.true).0

pub returns-then-rows-n-clause-rows_after : goal.returns-then-rows-n-clause-rows_after
returns-then-rows-n-clause-rows_after c = none_worked _ _ c.if-rows-n.true

pub returns : goal.returns
returns c =
    let core = c.remove_lent-answer in
    let left =
    called c.args.rows.now c.args.t.now (step (refused bad_table) (queue_of c.args.q.now))
    (λ (l : List ThreadRecord). remove_call l (queue_of c.args.q.now) c.args.id.0 c.args.cpu)
    c.to_rows.new.rows core.new.t c.if-rows-n.false c.to_rows.ensures core.auto.t core.ensures.t_after
    c.from_rows.ensures in record {
      t_after = left.0;
      rows_unchanged = left.1.0;
      rows_after = left.1.1;
      spared = core.ensures.spared;
      q_unchanged = core.ensures.q_unchanged;
      queue_framed = core.ensures.queue_framed;
    }
