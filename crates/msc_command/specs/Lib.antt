-- what is promised
pub mod Words
pub mod Grammar
pub mod Asking
pub mod Scanning
pub mod Invocations
pub mod Misuses
pub mod Program
