-- The laws that the proofs share.
pub mod Written
pub mod Pieces
pub mod Lengths
pub mod Runs
pub mod Refusals
pub mod Most
pub mod Wholes
pub mod PacketReads
pub mod Rejoins
pub mod ExamplesLaws
