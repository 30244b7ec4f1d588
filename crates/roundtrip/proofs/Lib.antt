-- The proof of the round trip.
pub mod Runs
pub mod Inputs
pub mod Units
pub mod RoundTrip
pub mod Example
pub mod Shown
