-- What the proofs of several functions use: what a rule records of registers are ports; what a fired rule does; Over, new entries over old ones.
-- Settled says that the promises of one clock, a run and the start values leave one answer and one content of the buffers.

mod Porting
pub mod Over
mod Firing
mod Settling
mod Turning
mod Ticking
mod Opening
mod Replying
mod Running
mod Starting
pub mod Settled
