pub mod Marked
pub mod Tables
