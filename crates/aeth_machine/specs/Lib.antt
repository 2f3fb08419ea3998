pub mod RunInputs
pub mod Totals
