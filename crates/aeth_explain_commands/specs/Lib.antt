pub mod Commands
pub mod Explain
