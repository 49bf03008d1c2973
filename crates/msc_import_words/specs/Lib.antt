pub mod Expected
pub mod Sentences
pub mod Imports
