-- The text of a capture, from its bytes to its lines, and what its functions write of it.
pub mod Command
pub mod Session
pub mod Waits
pub mod Capture
pub mod Words
pub mod Steps
pub mod Worked
pub mod Claims
