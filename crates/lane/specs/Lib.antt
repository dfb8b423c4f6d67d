pub mod Fits
pub mod Laned
pub mod Lanes
pub mod Meaning
pub mod Steps
