-- The text of lines in decimal, and what writing it to a memory leaves.
pub mod Text
pub mod Decimal
pub mod Line
pub mod Examples
