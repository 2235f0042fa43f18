pub mod Arriving
pub mod Agreeing
pub mod Examples
pub mod Shown
pub mod Joining
pub mod Numbers
pub mod Searching
