pub mod Computed
pub mod Epochs
pub mod Persisting
pub mod Played
pub mod Refusing
pub mod Versions
