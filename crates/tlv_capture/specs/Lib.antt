-- The turns of the capture program.
pub mod Pump
