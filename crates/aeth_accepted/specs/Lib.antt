pub mod Inputs
pub mod Wishes
