pub mod Values
pub mod Begins
pub mod Wholes
pub mod Spans
pub mod Looks
pub mod Starts
