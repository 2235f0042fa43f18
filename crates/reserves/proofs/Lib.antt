pub mod Remembering
pub mod Same
pub mod Placing
pub mod Holders
pub mod Covered
pub mod Examples
