pub mod Ascii
pub mod Output
