-- The meaning of a capture, the calls that its commands make, and what is claimed of them.
pub mod Events
pub mod Calls
pub mod Places
pub mod Written
pub mod Claims
pub mod Examples
