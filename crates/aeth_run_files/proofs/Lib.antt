pub mod RunLemmas
pub mod TraceLemmas
