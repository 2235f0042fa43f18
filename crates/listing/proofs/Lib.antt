pub mod Decimal
pub mod Pieces
pub mod Covers
pub mod Reading
pub mod Back
pub mod Enough
pub mod Worked
pub mod Examples
