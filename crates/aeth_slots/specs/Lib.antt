pub mod SlotSet
pub mod Choice
pub mod Bits
pub mod BitLemmas
pub mod Ways
