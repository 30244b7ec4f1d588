-- What is proved of the calls beside their code.
pub mod Unrefused
pub mod Demand1
pub mod Lengths
pub mod ExamplesLaws
pub mod NextLaws
pub mod ReadOnLaws
pub mod TurnsLaws
