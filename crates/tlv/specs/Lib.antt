-- The definitions of slots and TLV packets, their laws, the specimens, and what is claimed of slots to packets.
pub mod Notes
pub mod Packet
pub mod Cuts
pub mod Slot
pub mod Held
pub mod Run
pub mod Row
pub mod Claims
pub mod Fades
pub mod Specimens
