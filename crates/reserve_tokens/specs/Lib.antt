pub mod ReserveTokens
pub mod Reserving
pub mod Numbers
pub mod Agreeing
pub mod Each
