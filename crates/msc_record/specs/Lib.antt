-- JSON
pub mod Members
pub mod Values
pub mod Writing
-- records
pub mod Plain
pub mod Events
pub mod Entries
pub mod Heads
pub mod Faults
pub mod Records
-- documents of SARIF
pub mod Uris
pub mod SarifPlain
pub mod Locations
pub mod Results
pub mod Rules
pub mod Documents
-- what is promised
pub mod Numbers
pub mod Laws
-- the values of the code
pub mod Lent
pub mod SarifLent
