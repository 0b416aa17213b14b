pub mod Laws
pub mod AnyLength
