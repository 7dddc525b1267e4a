-- Syntax has the trees and the design; Take, Grammar and Records say how bytes are read to them.
-- Text says what the functions ensure that walk the bytes.
pub mod Syntax
pub mod Take
pub mod Grammar
pub mod Records
pub mod Text
pub mod Answers
pub mod Fields
pub mod Parts
pub mod Plan
pub mod Lookups
pub mod Steps
pub mod Reads
pub mod Examples
pub mod PlanExamples
pub mod Kinds
