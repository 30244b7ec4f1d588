-- The theorems.
pub mod Refusals
pub mod Packed
pub mod Texts
pub mod AnswersLaws
pub mod TextLaws
