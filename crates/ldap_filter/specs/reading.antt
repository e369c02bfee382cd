-- what public clauses cite
pub mod FilterLayouts
pub mod FilterReading
-- for the inside of the crate alone
pub mod SubstringParts
pub mod Joined
