pub mod ConnectionLaws
pub mod LayoutLaws
pub mod Answers
pub mod Refusals
pub mod RoundTrip
