-- The definitions of the control block, and its specimens.
pub mod Count
pub mod Mode
pub mod Stream
pub mod Layout
pub mod Decoded
pub mod Block
pub mod Specimens
