-- what is promised
pub mod Rows
pub mod Tables
pub mod Sets
