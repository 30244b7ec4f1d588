-- The theorems, and the laws that they share.
pub mod Lines
pub mod Pours
pub mod Texts
pub mod Bounded
pub mod CommandLaws
pub mod Drains
pub mod Examples
pub mod Paid
pub mod StepsLaws
pub mod WaitsLaws
pub mod WordsLaws
pub mod WorkedLaws
