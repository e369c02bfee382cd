-- The keys of values by the syntax of their type, names aside (RFC 4517 section 3.3 for the syntaxes).
use Rattle.std.specs.Prelude.{ℕ, List, Option, None, if◌then◌else◌}
use Rattle.std.specs.Str.{is_utf8}
use Rattle.match_rules.specs.declared.rules.Rule.TheVariants as rules
use Rattle.match_rules.specs.Keys.{key_of}
use Rattle.schema_tables.specs.declared.kinds.Syntax.{Syntax}
use Rattle.schema_tables.specs.declared.kinds.Syntax.TheVariants.{Text, Ascii, Phone, Country, Octets, Oid, Name, Subtree, Aci}
use Rattle.schema_tables.specs.Oids.{oid_of}

-- what a look-up of texts gives for octets: nothing where they are no text
abbrev pub of_text : {A : Type 0} → (List ℕ → Option A) → List ℕ → Option A
of_text look_up octets = if is_utf8 octets then look_up octets else None

-- the key of octets: none where they are not of the syntax; a name has its key elsewhere
abbrev pub plain_key : Syntax → List ℕ → Option (List ℕ)
plain_key Text octets = key_of rules.Text octets
plain_key Ascii octets = key_of rules.Ascii octets
plain_key Phone octets = key_of rules.Phone octets
plain_key Country octets = key_of rules.Country octets
plain_key Octets octets = key_of rules.Octets octets
plain_key Oid octets = of_text oid_of octets
plain_key Name octets = None
plain_key Subtree octets = key_of rules.Octets octets
plain_key Aci octets = key_of rules.Octets octets
