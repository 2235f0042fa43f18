pub mod Asking
pub mod Noting
pub mod Naming
pub mod Examples
