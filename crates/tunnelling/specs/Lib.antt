pub mod Layout
pub mod Reading
pub mod Answers
pub mod Stages
