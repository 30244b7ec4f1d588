-- The laws of the definitions.
pub mod QueueLaws
pub mod Taking
pub mod WordsLaws
