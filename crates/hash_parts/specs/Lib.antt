pub mod Duration
pub mod Error
pub mod Hash
pub mod Outcome
pub mod Setting
pub mod ZeroBytes
