pub mod Right
pub mod Pairs
pub mod Seeking
pub mod Examples
