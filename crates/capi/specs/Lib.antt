pub mod Calls
pub mod Rebuilds
pub mod Records
pub mod Words
