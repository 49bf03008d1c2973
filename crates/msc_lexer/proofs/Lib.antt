-- what a text between apostrophes holds
pub mod Quotes
-- what the functions read
pub mod Spellings
pub mod LaneLemmas
pub mod EndsLemmas
pub mod Fronts
pub mod Cuts
-- a text has at most one reading
pub mod Shapes
pub mod OnePiece
pub mod Flaws
pub mod OneFlaw
pub mod OneReading
-- what the tokens of every text keep
pub mod Placed
-- what is printed is read again
pub mod Printed
