-- What a selection's texts choose, read once for all entries.
use Rattle.std.specs.Prelude.{ℕ, ◌==◌, Bool, false, not, List, [], ◌∷◌, if◌then◌else◌}
use Rattle.std.specs.List.{list_any}
use Rattle.dir_tree.specs.schema_tables.Attributes.{is_operational}
use Rattle.dir_tree.specs.Entry.{Attribute}
use Rattle.acdf_filters.specs.aci_item.declared.permission.Permission.TheVariants.{Read}
use Rattle.acdf_filters.specs.Asking.{Kind as TheKind}
use Rattle.ldap_msg.specs.declared.kinds.KindValues.{KindValues}
use Rattle.page_core.specs.read_model.Views.{Row}
use Rattle.page_core.specs.read_model.Choosing.{sent_attribute}
use Rattle.op_read.specs.declared.choosing.Choice.{Choice}
use Rattle.op_read.specs.declared.choosing.Choice.TheVariants.{User, Operational, Kind, Nothing}

-- the choice has the type
abbrev pub chooses : ℕ → Choice → Bool
chooses kind User = not (is_operational kind)
chooses kind Operational = is_operational kind
chooses kind (Kind chosen) = chosen.0 == kind
chooses kind Nothing = false

-- what is sent of an attribute: itself, or nothing
abbrev pub sent_of : List Choice → Bool → Row → Attribute → List KindValues
sent_of choices kinds_only row attribute =
    if list_any (chooses attribute.kind) choices
    then (if row.allows (TheKind attribute.kind) Read then sent_attribute kinds_only row attribute ∷ [] else [])
    else []
