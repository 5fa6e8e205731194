pub mod BlankLines
pub mod Fills
pub mod NoteLists
pub mod Adds
pub mod Refusals
pub mod Withins
