pub mod Timeline
pub mod Rows
pub mod Windows
