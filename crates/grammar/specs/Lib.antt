pub mod Row
pub mod Table
