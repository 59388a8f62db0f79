pub mod Digits
pub mod Example
pub mod Inside
pub mod Lines
pub mod Numbers
pub mod Replies
pub mod Search
pub mod Splitting
