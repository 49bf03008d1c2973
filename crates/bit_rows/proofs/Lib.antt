pub mod Bits
pub mod Rows
pub mod Sets
pub mod Cells
pub mod Writes
pub mod Zeros
