pub mod Checking
pub mod Coding
pub mod Composing
pub mod Entries
pub mod Fills
pub mod Laying
pub mod Sealing
pub mod Verdicts
