pub mod Questions
pub mod Answers
pub mod Room
pub mod Noted
pub mod Compared
