pub mod Carried
pub mod Seen
