pub mod Chains
mod Fronts
mod NameCounts
mod OwnNames
mod StartLaws
mod GrantOrder
pub mod SeatedCores
mod RisingLists
pub mod MadePlans
pub mod LineForms
pub mod TextLaws
pub mod Places
pub mod PlanReading
pub mod PlanAgain
pub mod PlanLaws
pub mod DesignLaws
