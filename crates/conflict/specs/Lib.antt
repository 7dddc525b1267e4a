-- Promises says what the public function promises, and Post what the others ensure.
pub mod Promises
pub mod Post
