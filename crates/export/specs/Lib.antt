pub mod Refusal
pub mod Token
pub mod Reserve
