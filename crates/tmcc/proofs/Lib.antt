-- What is proved of the control block beside its code.
pub mod Cases
pub mod Table
pub mod Laws
pub mod One
pub mod Slots
pub mod Specimens
pub mod BlockLaws
pub mod CountLaws
pub mod ModeLaws
