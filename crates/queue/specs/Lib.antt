-- What waits of a packet, as a record and in words.
pub mod Event
pub mod Located
pub mod Waiting
pub mod Queue
pub mod Words
