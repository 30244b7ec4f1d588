-- What is proved of slots to packets beside the code.
pub mod Runs
pub mod Answers
pub mod Loss
pub mod RowCuts
pub mod Rows
pub mod HeldGood
pub mod CutsLaws
pub mod FadesLaws
pub mod HeldLaws
pub mod NotesLaws
pub mod SlotLaws
pub mod SpecimensLaws
pub mod Walks
