pub mod Back
pub mod Replies
pub mod Stores
