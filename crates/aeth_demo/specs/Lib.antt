pub mod Draws
pub mod Limits
pub mod Mesh
pub mod Pieces
pub mod Streams
pub mod Texts
pub mod Traces
