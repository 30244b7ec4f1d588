-- The laws of the definitions.
pub mod CursorLaws
pub mod ExamplesLaws
pub mod Joining
pub mod PacketLaws
pub mod WithinLaws
