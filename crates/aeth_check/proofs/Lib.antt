mod Walks
mod PlaceLaws
mod UnitLists
mod SlotLaws
mod TakenLaws
mod MeetLaws
mod TouchLaws
mod UseLaws
mod ConflictLaws
mod HoldLaws
mod MeetingLaws
mod FirstLaws
pub mod RouteLaws
mod SeatLaws
mod MarkLaws
mod ChannelLaws
mod AcceptedLaws
pub mod PlanParts
mod GrantOrder
pub mod Halves
