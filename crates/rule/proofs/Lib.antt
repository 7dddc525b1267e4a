-- What the proofs of several functions use: laws of answers and of any parts, then one law for each way in which a function returns.
-- Settled says that the promise of `turn` leaves one answer.
mod Meaning
mod Leaves
mod Operating
mod Constructs
mod Walking
pub mod Invoking
mod Falling
mod Turning
pub mod Callees
pub mod Kinded
pub mod Passed
pub mod Settled
