pub mod ChipWirings
pub mod ChipBegins
pub mod ChannelLists
pub mod SessionOrder
mod UseLines
mod StartsOfSessions
mod SessionStartLists
pub mod WordWindows
mod ChannelPlaces
mod WordPlaces
mod OfferedWords
mod StimuliFit
pub mod OverChips
pub mod Pairs
pub mod StaySwitches
pub mod SwitchEvents
pub mod SwitchOrder
pub mod SwitchSessions
pub mod RunEvents
pub mod EventsOfSessions
pub mod SessionEvents
pub mod CycleEvents
pub mod LoadedEvents
pub mod FirstEvents
pub mod FittingEvents
