mod Files
mod Reading
pub mod Writing
