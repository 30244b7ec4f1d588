-- The round trip of units through the packer, the slot cutter and a fresh receiver.
pub mod Sending
pub mod RoundTrip
pub mod Example
pub mod Shown
