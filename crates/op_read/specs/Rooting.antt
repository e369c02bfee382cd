-- The attributes of the root DSE, one after the other.
use Rattle.std.specs.Prelude.{ℕ, true, false, List, [], ◌∷◌, codes, map, if◌then◌else◌}
use Rattle.ldap_msg.specs.declared.kinds.KindValues.{KindValues}
use Rattle.ldap_msg.specs.declared.kinds.SearchRequest.{SearchRequest}
use Rattle.page_core.specs.read_model.RootEntry.{RootAttribute, is_root_chosen, sent_root}
use Rattle.op_read.specs.declared.root_entry.RootAttribute as code

-- the attribute that the program holds
abbrev pub root_of : code.RootAttribute → RootAttribute
root_of attribute = record { name = attribute.name.now; operational = attribute.operational; values = map (λ value. value.now) attribute.values.now }

-- what is sent of an attribute: itself, or nothing
abbrev pub root_sent_of : SearchRequest → RootAttribute → List KindValues
root_sent_of request attribute =
    if is_root_chosen request.selection attribute then sent_root request.kinds_only attribute ∷ [] else []

-- the attributes, where the suffix has this name
abbrev pub roots_with : List ℕ → List RootAttribute
roots_with suffix =
    record { name = codes "objectClass"; operational = false; values = codes "top" ∷ [] }
    ∷ record { name = codes "namingContexts"; operational = true; values = suffix ∷ [] }
    ∷ record { name = codes "supportedControl"; operational = true; values = codes "1.3.6.1.4.1.4203.1.10.1" ∷ codes "1.2.840.113556.1.4.319" ∷ [] }
    ∷ record { name = codes "supportedLDAPVersion"; operational = true; values = codes "3" ∷ [] }
    ∷ []
