-- The definitions of next and show, and demand 1 of all calls.
pub mod Next
pub mod ReadOn
pub mod Turns
pub mod Show
pub mod Examples
pub mod Claims
