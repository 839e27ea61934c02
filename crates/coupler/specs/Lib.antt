pub mod Setting
pub mod Memory
pub mod Step
pub mod Hearing
pub mod Series
pub mod Stages
