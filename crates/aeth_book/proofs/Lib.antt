pub mod FilterLemmas
pub mod FreeLemmas
pub mod UseLemmas
pub mod StartLemmas
mod BookLemmas
