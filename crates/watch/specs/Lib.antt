-- The watch list as start is given it and as start keeps it, and that both answer alike.
pub mod Given
pub mod Rising
pub mod Words
pub mod Examples
