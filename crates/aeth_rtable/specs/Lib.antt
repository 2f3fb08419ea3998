pub mod Hops
pub mod Entries
pub mod Rows
pub mod RouterTables
pub mod RouteText
pub mod Sending
pub mod InForce
