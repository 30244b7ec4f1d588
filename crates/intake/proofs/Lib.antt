-- What is proved of slots beside the code.
pub mod SlotLaws
pub mod EarlyCopies
pub mod EarlyLaws
pub mod ExamplesLaws
pub mod SlotFacts
