pub mod Blocks
pub mod Contents
pub mod Load
pub mod Write
pub mod Typed
pub mod Copies
pub mod Plan
pub mod Kinds
