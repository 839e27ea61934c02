pub mod Query
pub mod Lines
pub mod Listing
pub mod Tracing
pub mod Reaching
pub mod Why
pub mod Answers
