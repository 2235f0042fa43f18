pub mod Walking
pub mod Table
pub mod Assets
pub mod Node
