pub mod Field
pub mod Number
pub mod Table
pub mod Row
pub mod Lists
