pub mod Accessors
