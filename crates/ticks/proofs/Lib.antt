pub mod Decimal
pub mod Printed
pub mod Fits
pub mod Examples
