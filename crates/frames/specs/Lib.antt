-- The definitions of frame, lost frame, slot and lost slot.
pub mod Frame
pub mod Slot
