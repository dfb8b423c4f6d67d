pub mod Changes
pub mod Keys
pub mod Looks
pub mod Members
pub mod Nexts
pub mod Shapes
pub mod Standing
pub mod Tables
