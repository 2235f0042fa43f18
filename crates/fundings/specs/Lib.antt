pub mod FundingTokens
pub mod Fundings
pub mod Funder
pub mod Remembered
pub mod Funded
