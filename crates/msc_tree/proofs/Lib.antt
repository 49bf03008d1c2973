mod Lines
pub mod Nesting
mod Escapes
