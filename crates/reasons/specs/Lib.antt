pub mod Why
pub mod Lines
pub mod Meaning
pub mod Examples
pub mod Telling
