pub mod Answer
pub mod Stage
