pub mod Raises
pub mod Raising
