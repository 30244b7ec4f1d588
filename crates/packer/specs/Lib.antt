-- The definitions of the packer, examples, and what is claimed of what it packs.
pub mod Pieces
pub mod Packet
pub mod Packed
pub mod Packer
pub mod Writing
pub mod Refusals
pub mod Examples
pub mod Reads
pub mod Rejoins
