pub mod Apart
pub mod StepLaws
mod HearingLaws
pub mod Refusals
pub mod Promised
pub mod Repetition
pub mod Answers
