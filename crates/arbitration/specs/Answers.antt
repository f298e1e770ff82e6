-- What each answer of the crate stands for: document 01's number, or its values.
use Rattle.std.specs.Prelude.{Option, Result, Ok, Err, ℕ}
use Rattle.refusal.specs.Answer.{Answer, value, refused, number_of, by_number}
use Rattle.arbitration.specs.declared.CpuWindow.{CpuWindow}
use Rattle.arbitration.specs.declared.WindowStep.{WindowStep}
use Rattle.arbitration.specs.declared.WindowDeadline.{WindowDeadline}
use Rattle.arbitration.specs.declared.WindowKey.{WindowKey}
use Rattle.arbitration.specs.Calls.{With, with}
use Rattle.dispatch_keys.specs.declared.DispatchKey.{DispatchKey}
use Rattle.arbitration.specs.declared.DispatchMode.{DispatchMode}
use Rattle.refusal.specs.declared.Refusal.{Refusal}

abbrev pub window_step : WindowStep → With (Unit {0})
window_step r = with (by_number r.answer) r.window

abbrev pub window_deadline : WindowDeadline → With (Option ℕ)
window_deadline r = with (by_number r.answer) r.window

abbrev pub window_key : WindowKey → With (Option (DispatchKey × DispatchMode))
window_key r = with (by_number r.answer) r.window
