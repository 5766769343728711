pub mod Naming
pub mod Chains
