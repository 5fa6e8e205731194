pub mod Numbers
pub mod Fronts
pub mod Forms
pub mod Parts
pub mod Start
pub mod Weight
pub mod Reads
