pub mod Places
pub mod Seats
pub mod First
pub mod Table
