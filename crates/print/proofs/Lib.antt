-- What the proofs use: one byte and the rest make up a text, a word tells a number's sign, and a number has one text.
mod Filling
mod Same
