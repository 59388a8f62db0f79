pub mod Asked
pub mod Columns
pub mod Distinct
pub mod Pages
pub mod Rows
pub mod Spelled
pub mod Visited
