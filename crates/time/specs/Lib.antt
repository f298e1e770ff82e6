-- Epochs, periods and deadlines.
pub mod Time
-- What callers may use instead of those definitions' text.
pub mod TimeLaws
