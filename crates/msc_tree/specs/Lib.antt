pub mod Trees
pub mod Shapes
pub mod Laws
