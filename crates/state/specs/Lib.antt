-- The state as a record, its words, and start.
pub mod State
pub mod Refused
pub mod Words
pub mod Start
pub mod Watching
pub mod Lent
pub mod Examples
