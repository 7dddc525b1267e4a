-- What a design means, on trees and lists. A rule: Values says what an evaluation works with, Lookup what the numbers of a design name, Naming
-- which names a body may use, and Evaluate what a rule does. Conflict says which recorded calls clash and what fate a rule has by them. Clock
-- says what one clock does, Run what n clocks do, and Buffers what a caller is answered and finds in its buffers. The check: Kinds says how a body
-- is walked with kinds for values, Calls how many calls a rule could make, and Check what the check answers.
pub mod Values
pub mod Lookup
pub mod Naming
pub mod Evaluate
pub mod Conflict
pub mod Clock
pub mod Run
pub mod Buffers
pub mod Kinds
pub mod Calls
pub mod Check
-- The same tried by computing: Build has short names for trees, Transcript for listings. ClockExamples has P1 to P10; Gcd and Queues have the
-- designs of document 000, clock by clock; Crowds has 64 and 65 calls.
pub mod Build
pub mod Transcript
pub mod RuleExamples
pub mod ConflictExamples
pub mod ClockExamples
pub mod Gcd
pub mod Queues
pub mod CheckExamples
pub mod Crowds
