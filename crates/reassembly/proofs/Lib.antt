-- The theorems of reassembly over lists of packets, and what they rest on.
pub mod Events
pub mod Steps
pub mod Sent
pub mod Beside
pub mod Loss
pub mod Runs
pub mod HoleLaws
pub mod JoinLaws
pub mod LostLaws
pub mod SpecimensLaws
