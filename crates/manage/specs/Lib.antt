pub mod EndState
pub mod Luacds
pub mod Aces
pub mod Phases
