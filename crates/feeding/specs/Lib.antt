-- A capture fed in blocks, and what that comes to.
pub mod Fed
pub mod Turn
pub mod Feed
pub mod Claims
pub mod Plays
pub mod Progress
