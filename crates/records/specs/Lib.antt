-- What lending rows adds to a call: its refusal, and the rows that it works on.
pub mod Lent
