-- On which terms a server answers.
use Rattle.std.specs.Prelude.{false}
pub use Rattle.session_hub.specs.declared.bounds.Terms.{Terms}

-- terms that limit no search, and by which no change is to be stored
abbrev pub no_terms : Terms
no_terms = record { limit = 0; keeps = false }
