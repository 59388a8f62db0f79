pub mod Line
pub mod Sheet
