pub mod Designs
pub mod Traces
pub mod Texts
pub mod Audits
pub mod Chains
