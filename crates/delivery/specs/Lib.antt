-- The definitions of delivery.
pub mod Found
pub mod Arrived
pub mod Packet
pub mod Within
pub mod Cursor
pub mod Words
pub mod Examples
