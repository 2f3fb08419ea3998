pub mod Chained
pub mod Explained
pub mod Logged
pub mod Tabled
pub mod Told
pub mod Versions
