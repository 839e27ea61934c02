pub mod Puts
pub mod Decimal
pub mod Line
pub mod List
pub mod Size
pub mod Notation
pub mod ReportLaws
pub mod Shown
