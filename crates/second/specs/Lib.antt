pub mod Cells
pub mod Edges
pub mod Meaning
pub mod Taken
