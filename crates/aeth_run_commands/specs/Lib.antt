pub mod Commands
pub mod Demo
pub mod Limits
pub mod Outcomes
pub mod Simulate
pub mod TracedDesigns
