pub mod Records
pub mod Stores
pub mod WellFormed
pub mod Starts
pub mod Letting
pub mod Stages
