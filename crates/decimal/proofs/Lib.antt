pub mod Decimals
pub mod Leading
