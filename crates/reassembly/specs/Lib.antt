-- The definitions of joining, its laws and claims, and the specimens.
pub mod Notes
pub mod Unit
pub mod Channel
pub mod Joined
pub mod Join
pub mod Run
pub mod Sent
pub mod Claims
pub mod Lost
pub mod Hole
pub mod Specimens
