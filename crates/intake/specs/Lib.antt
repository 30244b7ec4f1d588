-- The definitions of intake.
pub mod Slot
pub mod Early
pub mod Examples
