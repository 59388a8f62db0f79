pub mod Bytes
pub mod Command
pub mod Fields
pub mod Hex
pub mod Input
pub mod Reply
pub mod Text
