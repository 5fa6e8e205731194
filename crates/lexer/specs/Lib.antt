pub mod Kinds
pub mod Front
pub mod Lexed
pub mod Tokens
