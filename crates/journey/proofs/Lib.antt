pub mod Fitted
pub mod SoMany
pub mod Handing
pub mod Journey
