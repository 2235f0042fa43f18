pub mod Reserving
pub mod Asking
pub mod Examples
