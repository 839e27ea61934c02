pub mod Settings
pub mod Classes
pub mod Passing
pub mod Answers
