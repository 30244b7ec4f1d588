-- The receiver's calls over plain words: start's settings, events as records, many events for one call, a copy of a unit's bytes.
pub mod Bounds
pub mod Settings
pub mod Record
pub mod Events
pub mod Show
pub mod Words
pub mod Claims
