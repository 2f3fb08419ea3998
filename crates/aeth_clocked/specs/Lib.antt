pub mod Driven
pub mod MarkedWires
pub mod Order
pub mod Resting
pub mod Stepped
pub mod Wires
