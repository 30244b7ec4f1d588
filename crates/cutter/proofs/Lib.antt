-- What is proved of the cutter beside its code.
pub mod Places
pub mod Packets
pub mod Table
pub mod Splits
pub mod Reaches
pub mod Refusals
pub mod Sound
pub mod Steps
pub mod Runs
pub mod ExamplesLaws
pub mod SlotLaws
