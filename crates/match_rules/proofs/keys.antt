pub mod KeysLemmas
pub mod SyntaxesLemmas
