pub mod Taking
pub mod Series
pub mod Answers
