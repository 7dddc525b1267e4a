-- Answers says what the code's answers are, Promises what the public functions promise, and Post what the others ensure.
pub mod Answers
pub mod Promises
pub mod Post
