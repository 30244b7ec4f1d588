-- The definition of the slot cutter, and what is claimed of it.
pub mod Pointers
pub mod Cut
pub mod Slot
pub mod Claims
pub mod Examples
