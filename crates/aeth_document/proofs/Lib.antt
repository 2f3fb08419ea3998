mod Documents
pub mod TableLemmas
mod TextLemmas
pub mod Least
pub mod WalkLemmas
pub mod ChainLemmas
pub mod Fronts
mod KeysInOrder
pub mod KeyLemmas
