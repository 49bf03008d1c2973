pub mod Words
pub mod Told
pub mod TextFaults
pub mod Messages
pub mod ChartFaults
pub mod RuleFaults
pub mod Devices
pub mod Printing
