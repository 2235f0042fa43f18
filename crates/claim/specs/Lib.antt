pub mod Verdict
pub mod Claim
pub mod Reserve
