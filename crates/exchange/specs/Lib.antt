pub mod Receiving
pub mod Confirming
pub mod Sending
pub mod Series
pub mod Answers
pub mod Stages
