pub mod Few
pub mod Splitting
pub mod Callers
pub mod Required
pub mod Examples
