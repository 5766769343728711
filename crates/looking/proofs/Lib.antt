pub mod Refusing
pub mod Seen
pub mod Scanned
pub mod Laws
pub mod Examples
