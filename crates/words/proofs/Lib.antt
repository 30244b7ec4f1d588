-- The laws of the definitions.
pub mod ChannelLaws
pub mod ConfigLaws
pub mod CursorLaws
