pub mod Pages
pub mod Printed
pub mod Prints
pub mod Rows
