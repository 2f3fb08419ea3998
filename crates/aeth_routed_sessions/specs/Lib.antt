pub mod Wiring
pub mod Paths
pub mod RoutedSessions
