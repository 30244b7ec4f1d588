-- The laws of the definitions.
pub mod ExamplesLaws
pub mod GivenLaws
pub mod Lowest
pub mod Order
pub mod WordsLaws
