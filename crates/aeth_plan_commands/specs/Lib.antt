pub mod Audit
pub mod Chain
pub mod Commands
pub mod PlannedUses
pub mod RouteTables
pub mod Tables
