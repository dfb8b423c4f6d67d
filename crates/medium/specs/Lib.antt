pub mod Model
pub mod Steps
pub mod Sound
pub mod Cuts
