-- Text in a buffer.
pub mod Page
pub mod Examples
