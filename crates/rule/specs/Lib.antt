-- Log says how events are kept; Answers what the code's values and answers are; Promises and Named what the
-- public functions promise, Post what the others ensure.
pub mod Log
pub mod Answers
pub mod Promises
pub mod Named
pub mod Post
