-- The definitions of bytes and fields, and their laws.
pub mod Bits
pub mod Field
pub mod Lists
pub mod Memory
pub mod Tab
pub mod Words
