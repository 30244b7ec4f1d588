-- What the functions of C linkage answer and leave, beside the receiver's calls.
pub mod Answers
pub mod Text
pub mod Claims
