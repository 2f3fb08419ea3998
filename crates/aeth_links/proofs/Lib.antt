mod SeenLemmas
mod NetworkLemmas
mod RowLemmas
mod FlowLemmas
mod FlitLemmas
mod CleanLemmas
