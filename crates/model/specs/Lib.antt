pub mod Model
pub mod Shown
