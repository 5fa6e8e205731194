pub mod Spread
pub mod Feeds
pub mod Frames
pub mod Chains
pub mod Cuts
pub mod Paragraphs
pub mod Walks
pub mod Searches
