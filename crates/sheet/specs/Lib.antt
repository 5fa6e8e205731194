pub mod Kinds
pub mod Limits
pub mod Sound
pub mod Refusals
pub mod View
pub mod Left
pub mod Places
