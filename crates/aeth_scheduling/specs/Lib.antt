pub mod Beside
pub mod Changes
pub mod Entered
pub mod Made
pub mod Parts
pub mod Staying
pub mod Tasks
