pub mod Order
pub mod Units
pub mod Grid
pub mod Turn
