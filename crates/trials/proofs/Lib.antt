pub mod Table
pub mod TwoWords
