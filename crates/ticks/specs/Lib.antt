pub mod Budget
pub mod Lines
