pub mod Pages
pub mod Meaning
