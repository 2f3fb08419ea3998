pub mod Limits
pub mod Grammar
pub mod Order
pub mod Fields
pub mod Spelling
