pub mod Area
pub mod Record
pub mod Steps
pub mod Uleb128
pub mod Varint
