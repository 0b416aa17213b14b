pub mod Course
pub mod Demand
pub mod Records
pub mod Worked
