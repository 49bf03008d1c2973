-- what is promised
pub mod Bytes
pub mod Words
pub mod Pieces
pub mod Lexing
pub mod Lexemes
-- what the code keeps
pub mod Scanning
