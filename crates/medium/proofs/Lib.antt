pub mod Keeps
pub mod Cutting
