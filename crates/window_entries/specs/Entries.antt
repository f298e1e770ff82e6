-- What a call on a window's words leaves: document 01's number, 0 where it was accepted, the answer that its words
-- stand for, and the window. A refusal leaves the answer's words standing for what they stood for.
use Rattle.std.specs.Prelude.{ℕ}
use Rattle.refusal.specs.Answer.{Answer, value, refused}
use Rattle.std.specs.declared.cmp.Ordering.{Ordering}
use Rattle.std.specs.declared.cmp.Ordering.TheVariants as ordering
use Rattle.window_config.specs.declared.ArbitrationConfig.{ArbitrationConfig}
use Rattle.arbitration.specs.declared.CpuWindow.{CpuWindow}
use Rattle.window_config.specs.Config.{new_config}
use Rattle.arbitration.specs.Calls.{With, with}
use Rattle.window_words.specs.WindowWords.{configured, progressed}

pub data Left (A : Type 0) : Type 0 where
  left : ℕ → A → CpuWindow → Left A

unfoldable pub left_of : {A : Type 0} → A → With A → Left A
left_of before (with (value a) w) = left 0 a w
left_of before (with (refused n) w) = left n before w

-- Of an answer and its window v: v's epoch and remainders stored over w where the answer is a value, and nothing where
-- it is a refusal.
unfoldable pub stored_over : {A : Type 0} → A → CpuWindow → Answer A → CpuWindow → Left A
stored_over before w (value a) v =
    left 0 a (progressed w v.epoch v.priority_remaining_ns v.protected_remaining_ns)
stored_over before w (refused n) v = left n before w

-- What `ArbitrationConfig::new` makes of a configuration's period, allowance, floor and ranks.
abbrev pub new_config_of : ArbitrationConfig → Answer ArbitrationConfig
new_config_of c = new_config c.period_ns c.priority_allowance_ns c.protected_floor_ns c.order

-- The window with the configuration that was made.
unfoldable pub config_left : CpuWindow → Answer ArbitrationConfig → Left (Unit {0})
config_left w (value c) = left 0 tt (configured w c)
config_left w (refused n) = left n tt w

-- The window that was made.
unfoldable pub window_left : CpuWindow → Answer CpuWindow → Left (Unit {0})
window_left w (value v) = left 0 tt v
window_left w (refused n) = left n tt w

-- Less, Equal and Greater as 0 to 2.
abbrev pub ordering_number : Ordering → ℕ
ordering_number ordering.Less = 0
ordering_number ordering.Equal = 1
ordering_number ordering.Greater = 2
