-- What the proofs of several functions use: two ports, what the plan says of instances and methods, two events, the searches.
-- Settled says that the promise of `judge` leaves one answer.
pub mod Ports
pub mod Looking
pub mod Pairs
pub mod Searching
pub mod Settled
