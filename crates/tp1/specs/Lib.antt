pub mod Layout
pub mod Reading
pub mod Stages
pub mod Answers
