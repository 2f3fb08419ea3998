mod TakenLemmas
mod TableLemmas
pub mod SeatLemmas
pub mod FreeLemmas
pub mod SeatingLemmas
mod FillLemmas
pub mod FirstLemmas
