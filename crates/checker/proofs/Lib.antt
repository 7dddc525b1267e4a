-- A design that passes the check is never stuck: the theorems are in NeverStuck, and for a file in Files. Passing says what a passed test
-- tells, Ending how an evaluation may end, Walked and Counting what the check has seen, Evaluating joins them by induction, and Turning
-- takes the rules' part to the clock.
-- The laws of the check's functions, one for each way in which one returns: Parts, Wanting, Walking, Blocks, Calling and Falling of the walk over a
-- body's kinds, Recorded of one method or rule, Placing of all of them; Tallying, Below and Crowding of the counts of calls; Checking of the
-- whole, Near of how far off a failure's place can be. Settled says that the promise of `check` leaves one answer.
pub mod Passing
pub mod Ending
pub mod Walked
pub mod Counting
pub mod Evaluating
pub mod Turning
pub mod NeverStuck
pub mod Files
mod Parts
mod Wanting
mod Walking
mod Blocks
mod Calling
mod Falling
mod Recorded
mod Placing
mod Tallying
mod Below
mod Crowding
mod Checking
mod Near
pub mod Settled
