pub mod Area
pub mod Chunks
pub mod Parts
pub mod Prefix
pub mod Steps
pub mod Stored
pub mod Uleb128
