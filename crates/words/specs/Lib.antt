-- Words says what the board's arithmetic is, and Examples has sums, differences and comparisons worked by it.
pub mod Words
pub mod Examples
