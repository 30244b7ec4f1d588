-- What is proved of frames and slots beside the code.
pub mod Refused
pub mod Due
pub mod Examples
pub mod FrameLaws
pub mod SlotLaws
