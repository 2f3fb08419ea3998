pub mod ListLaws
pub mod FindLaws
mod SearchLaws
pub mod SentLinks
pub mod PortLaws
mod CreditNeeds
pub mod ShapeRanges
pub mod ReservedLaws
mod PlaceLaws
pub mod UseLaws
pub mod BufferLaws
pub mod ApartLaws
mod SlotLaws
pub mod PromiseLaws
pub mod DesignLaws
mod SpanLaws
pub mod GridLaws
mod TextLaws
mod GrantedLists
mod ChangeLaws
mod OwnRows
