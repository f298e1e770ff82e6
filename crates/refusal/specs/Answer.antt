-- What a call answers: a value, or the number of a refusal in document 01, "Turned down".
use Rattle.std.specs.Prelude.{ℕ, Result, Ok, Err}
use Rattle.refusal.specs.declared.Damaged.{Damaged as Damage}
use Rattle.refusal.specs.declared.Refusal.{Refusal}
use Rattle.refusal.specs.declared.Refusal.TheVariants.{Damaged, BadState, Already, NoThread, BadConfig}
use Rattle.refusal.specs.declared.Refusal.TheVariants.{BadBudget, BackInTime, TurnsSpent, Halted, BadTable}
use Rattle.refusal.specs.declared.Refusal.TheVariants.{BadRecord, RecordOrder}

pub data Answer (A : Type 0) : Type 0 where
  value : A → Answer A
  refused : ℕ → Answer A

-- The numbers, each said here alone.
abbrev pub damaged : ℕ
damaged = 1

abbrev pub bad_state : ℕ
bad_state = 2

abbrev pub already : ℕ
already = 3

abbrev pub no_thread : ℕ
no_thread = 4

abbrev pub bad_config : ℕ
bad_config = 5

abbrev pub bad_budget : ℕ
bad_budget = 6

abbrev pub back_in_time : ℕ
back_in_time = 7

abbrev pub turns_spent : ℕ
turns_spent = 8

abbrev pub queue_halted : ℕ
queue_halted = 9

abbrev pub bad_table : ℕ
bad_table = 10

abbrev pub bad_record : ℕ
bad_record = 11

-- Document 02, T-01.
abbrev pub record_order : ℕ
record_order = 12

-- SPECIFICATION 11.1.
abbrev pub number_of : Refusal → ℕ
number_of Damaged = damaged
number_of BadState = bad_state
number_of Already = already
number_of NoThread = no_thread
number_of BadConfig = bad_config
number_of BadBudget = bad_budget
number_of BackInTime = back_in_time
number_of TurnsSpent = turns_spent
number_of Halted = queue_halted
number_of BadTable = bad_table
number_of BadRecord = bad_record
number_of RecordOrder = record_order

-- What a function that may refuse answers, the refusal by its number.
abbrev pub by_number : {A : Type 0} → Result A Refusal → Answer A
by_number (Ok a) = value a
by_number (Err r) = refused (number_of r)

-- Where a table is found damaged.
abbrev pub damage : Damage
damage = record {}

-- The same of a function that can only find its table damaged. It stays shut in proofs of code.
unfoldable pub or_damaged : {A : Type 0} → Result A Damage → Answer A
or_damaged (Ok a) = value a
or_damaged (Err _) = refused damaged
