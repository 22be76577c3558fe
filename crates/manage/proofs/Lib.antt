pub mod Filling
pub mod Standing
pub mod Grants
pub mod EndState
pub mod Put
pub mod Fits
pub mod Phases
