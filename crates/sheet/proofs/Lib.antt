pub mod SameKinds
pub mod Tokens
pub mod Lefts
