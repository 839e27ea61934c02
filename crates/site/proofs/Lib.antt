pub mod RecordLaws
pub mod RecordCount
pub mod Surveying
pub mod StartLaws
pub mod LettingLaws
pub mod Refusals
