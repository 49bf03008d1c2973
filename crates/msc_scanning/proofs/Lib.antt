mod Folds
mod Parts
pub mod Folding
pub mod Given
pub mod Printed
pub mod Written
pub mod Rules
pub mod Lines
pub mod Scanned
