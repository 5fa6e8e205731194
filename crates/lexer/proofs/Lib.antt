pub mod Fronts
pub mod Cuts
