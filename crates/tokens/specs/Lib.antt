pub mod Tokens
pub mod Place
pub mod Numbers
