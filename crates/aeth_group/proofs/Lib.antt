mod MarkLemmas
mod PassLemmas
pub mod Ranges
pub mod ChainLemmas
mod ClosureLemmas
mod NumberingLemmas
pub mod GroupLemmas
pub mod MemberLemmas
mod MakingLemmas
pub mod UnitLemmas
pub mod RowLemmas
pub mod AppGroupsLemmas
pub mod ListLemmas
pub mod OccupationLemmas
pub mod ConflictLemmas
pub mod TableLemmas
pub mod TableUseLemmas
