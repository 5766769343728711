pub mod Ancestors
pub mod Others
pub mod Sources
pub mod Search
