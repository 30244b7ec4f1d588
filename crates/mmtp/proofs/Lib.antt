-- The laws of the definitions.
pub mod Cases
pub mod FlowLaws
pub mod HeaderLaws
pub mod NotesLaws
pub mod PacketLaws
pub mod PayloadLaws
pub mod PayloadSpecimensLaws
pub mod SpecimensLaws
pub mod Take
pub mod UnitLaws
