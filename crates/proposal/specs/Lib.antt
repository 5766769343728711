pub mod Walk
pub mod Proposed
pub mod Meaning
pub mod Weaving
pub mod Keeping
