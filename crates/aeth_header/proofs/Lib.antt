mod Constants
pub mod HeaderLemmas
pub mod RouteLemmas
mod Shifts
