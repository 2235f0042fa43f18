pub mod Calls
pub mod Entered
