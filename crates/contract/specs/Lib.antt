pub mod Records
pub mod Reading
pub mod Backed
pub mod Coded
pub mod Each
