pub mod Decimal
pub mod Listing
pub mod Coded
pub mod Words
pub mod Reading
