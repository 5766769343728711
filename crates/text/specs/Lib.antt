pub mod Line
pub mod File
pub mod Examples
pub mod Meaning
pub mod Steps
