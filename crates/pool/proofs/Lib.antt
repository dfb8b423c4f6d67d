pub mod Moves
pub mod Sums
pub mod Owners
pub mod Serving
