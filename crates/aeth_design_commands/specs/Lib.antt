pub mod Allocate
pub mod App
pub mod Check
pub mod Chip
pub mod Commands
pub mod Limits
pub mod Server
pub mod Slots
