pub mod PassingLaws
pub mod Answers
