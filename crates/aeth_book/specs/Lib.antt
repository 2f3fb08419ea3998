pub mod Book
pub mod Free
pub mod Masks
