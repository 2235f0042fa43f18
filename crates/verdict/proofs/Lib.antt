pub mod Numbered
pub mod Asking
pub mod Written
pub mod Running
pub mod Placing
