-- What the covers' proofs use; Apart says that nothing is lost in one number, and Prepared that a tick by a
-- prepared plan is one clock of the file.
pub mod Packing
pub mod Covering
pub mod Prepared
pub mod Apart
