pub mod Files
pub mod Plans
pub mod Told
pub mod Uses
