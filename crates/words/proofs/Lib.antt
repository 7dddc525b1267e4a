-- Laws of the definitions of specs/Words.antt, which the proofs of the functions and of other crates cite.
pub mod Laws
