-- What the proofs of several functions use: how bytes are taken, what begins an expression, and what is passed over.
-- Settled says that the promises of reading leave one answer.
pub mod Taking
pub mod Heads
pub mod Skipping
pub mod Depth
mod Alike
pub mod Rows
mod Returning
mod Filling
mod Whole
pub mod Spans
pub mod Settled
pub mod Table
pub mod Inverting
mod Recording
mod Laid
pub mod Lookups
