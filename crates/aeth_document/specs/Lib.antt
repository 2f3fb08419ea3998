pub mod Limits
pub mod Arrays
pub mod Document
pub mod Walks
pub mod Keys
pub mod KeysInOrder
pub mod Values
pub mod Chain
