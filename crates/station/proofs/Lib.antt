pub mod Apart
pub mod Exactly
pub mod Series
pub mod Answers
