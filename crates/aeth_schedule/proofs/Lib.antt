pub mod LineLemmas
pub mod Places
pub mod Ranges
pub mod SwitchRows
