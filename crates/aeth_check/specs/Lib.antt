pub mod Firsts
pub mod Seats
pub mod Routes
pub mod Channels
pub mod Meetings
pub mod Verdict
pub mod Masks
pub mod Calls
