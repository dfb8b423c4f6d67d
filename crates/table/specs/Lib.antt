pub mod Order
pub mod Places
pub mod Records
pub mod View
