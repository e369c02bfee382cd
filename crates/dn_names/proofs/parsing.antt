pub mod MachineOfNames
pub mod SpelledInGrammar
pub mod GrammarIsSpelled
pub mod ParseLemmas
pub mod OrderedLemmas
pub mod GoodNameLemmas
pub mod FirstBadLemmas
pub mod CauseLemmas
