pub mod Size
pub mod LayoutLaws
pub mod Refusals
pub mod RoundTrip
pub mod Answers
