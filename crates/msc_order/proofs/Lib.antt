pub mod Drawing
pub mod Leading
pub mod LineRows
pub mod Once
pub mod Between
pub mod Taking
pub mod Seen
