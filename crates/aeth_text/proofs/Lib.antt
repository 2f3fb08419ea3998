pub mod Readers
pub mod PartLaws
pub mod FieldLaws
pub mod LineLaws
pub mod OrderLaws
pub mod PrintLaws
pub mod LineLemmas
pub mod Fronts
mod Cuts
mod NumberWords
