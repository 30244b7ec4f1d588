-- How a part of the state stands in words, and that what is written is read back.
pub mod Config
pub mod Channel
pub mod Cursor
