-- How answers are packed into one number for other languages, and what the covers promise. Examples has answers worked by the definitions.
pub mod Packed
pub mod Covers
pub mod Examples
