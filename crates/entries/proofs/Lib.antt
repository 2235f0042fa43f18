pub mod Called
pub mod Choosing
pub mod Naming
pub mod Reading
