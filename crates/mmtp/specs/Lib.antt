-- The definitions of packets, their laws, and the specimens.
pub mod Notes
pub mod Flow
pub mod Header
pub mod Unit
pub mod Payload
pub mod PayloadSpecimens
pub mod Packet
pub mod Specimens
