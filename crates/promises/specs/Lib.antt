pub mod Telegrams
pub mod Readings
