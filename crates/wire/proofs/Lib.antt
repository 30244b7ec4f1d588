-- The laws that the proofs share.
pub mod Copy
pub mod Write
pub mod BitsLaws
pub mod Choice
pub mod FieldLaws
pub mod ListsLaws
pub mod MemoryLaws
pub mod TabLaws
pub mod WordsLaws
