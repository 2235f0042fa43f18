pub mod Guarding
pub mod Called
pub mod Held
pub mod Raised
pub mod Reserving
pub mod Examples
pub mod Numbers
pub mod Replacing
