-- A record with one of its parts changed and every other as it was.
use Rattle.std.specs.Prelude.{ℕ, Option}
use Rattle.policy.specs.declared.SchedulingParameters.{SchedulingParameters}
use Rattle.algorithms.specs.declared.PolicyRuntime.{PolicyRuntime}
use Rattle.thread.specs.declared.CpuIndex.{CpuIndex}
use Rattle.thread.specs.declared.Links.{Links}
use Rattle.thread.specs.declared.QueueLinks.{QueueLinks}
use Rattle.thread.specs.declared.ThreadRecord.{ThreadRecord}

abbrev pub with_parameters : SchedulingParameters → ThreadRecord → ThreadRecord
with_parameters p r =
    record {
      parameters = p;
      runtime = r.runtime;
      ready_turn = r.ready_turn;
      ready_tree = r.ready_tree;
      queue_links = r.queue_links;
      cpu = r.cpu;
    }

abbrev pub with_runtime : PolicyRuntime → ThreadRecord → ThreadRecord
with_runtime x r =
    record {
      parameters = r.parameters;
      runtime = x;
      ready_turn = r.ready_turn;
      ready_tree = r.ready_tree;
      queue_links = r.queue_links;
      cpu = r.cpu;
    }

abbrev pub with_turn : ℕ → ThreadRecord → ThreadRecord
with_turn n r =
    record {
      parameters = r.parameters;
      runtime = r.runtime;
      ready_turn = n;
      ready_tree = r.ready_tree;
      queue_links = r.queue_links;
      cpu = r.cpu;
    }

abbrev pub with_links : Links → ThreadRecord → ThreadRecord
with_links l r =
    record {
      parameters = r.parameters;
      runtime = r.runtime;
      ready_turn = r.ready_turn;
      ready_tree = l;
      queue_links = r.queue_links;
      cpu = r.cpu;
    }

-- One of the tree links, or the height of the tree links.
abbrev pub with_left : Option ℕ → ThreadRecord → ThreadRecord
with_left l r = with_links (record { left = l; right = r.ready_tree.right; height = r.ready_tree.height }) r

abbrev pub with_right : Option ℕ → ThreadRecord → ThreadRecord
with_right l r = with_links (record { left = r.ready_tree.left; right = l; height = r.ready_tree.height }) r

abbrev pub with_height : ℕ → ThreadRecord → ThreadRecord
with_height n r = with_links (record { left = r.ready_tree.left; right = r.ready_tree.right; height = n }) r

abbrev pub with_queue_links : QueueLinks → ThreadRecord → ThreadRecord
with_queue_links l r =
    record {
      parameters = r.parameters;
      runtime = r.runtime;
      ready_turn = r.ready_turn;
      ready_tree = r.ready_tree;
      queue_links = l;
      cpu = r.cpu;
    }

abbrev pub with_cpu : CpuIndex → ThreadRecord → ThreadRecord
with_cpu c r =
    record {
      parameters = r.parameters;
      runtime = r.runtime;
      ready_turn = r.ready_turn;
      ready_tree = r.ready_tree;
      queue_links = r.queue_links;
      cpu = c;
    }
