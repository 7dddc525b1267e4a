-- Answers says what the code's answers are, and Unstuck what a design that passes is spared. Walks, Bodies and Counted say what the functions
-- ensure that walk a body, walk all of them, and count calls.
pub mod Answers
pub mod Unstuck
pub mod Walks
pub mod Bodies
pub mod Counted
