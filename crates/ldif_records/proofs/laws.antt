pub mod OnLiterals
pub mod OctetLemmas
pub mod WrittenLineLemmas
pub mod TableNames
pub mod WrittenFileLemmas
pub mod RereadLemmas
pub mod KindForms
