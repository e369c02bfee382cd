-- what the contracts of public functions cite
pub mod Keys
pub mod Laws
pub mod OwnKeys
pub mod Parts
pub mod substrings
pub mod Syntaxes
-- what those definitions are made of
pub mod Folding
pub mod Spaces
