pub mod Kept
pub mod Calls
pub mod Fresh
pub mod Files
pub mod Tails
pub mod Cutting
