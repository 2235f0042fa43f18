pub mod Grammar
pub mod Slots
