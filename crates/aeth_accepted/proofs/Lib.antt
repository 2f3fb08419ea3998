pub mod PathPlaces
pub mod GivenGrants
pub mod OwnGrants
pub mod SoundRuns
pub mod TableFlows
pub mod SessionRows
pub mod ApartRows
pub mod Wished
