pub mod Outcomes
pub mod Sheet
pub mod Coded
pub mod Place
