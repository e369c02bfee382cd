-- The changes that a modify request lists (RFC 4511 4.6), read in their order. An operation beyond the three, as the
-- increment of RFC 4525, is none here.
use Rattle.std.specs.Prelude.{ℕ, ◌==◌, Bool, true, false, List, [], ◌∷◌, length, Result, Ok, Err, if◌then◌else◌}
use Rattle.std.specs.List.{list_any}
use Rattle.ldap_msg.specs.plain_values.Results.{◌>>=◌}
use Rattle.dir_tree.specs.Entry.{Attribute, is_match}
use Rattle.entry_changes.specs.declared.kind.ChangeKind.{ChangeKind}
use Rattle.entry_changes.specs.declared.kind.ChangeKind.TheVariants as kind
use Rattle.entry_changes.specs.Change.{Modification}
use Rattle.ldap_msg.specs.declared.operations.ResultCode.{ResultCode}
use Rattle.ldap_msg.specs.declared.operations.ResultCode.TheVariants as code
use Rattle.ldap_msg.specs.declared.kinds.ModifyOperation.{ModifyOperation}
use Rattle.ldap_msg.specs.declared.kinds.ModifyOperation.TheVariants.{Add, Delete, Replace, Other}
use Rattle.ldap_msg.specs.declared.kinds.Change.{Change}
use Rattle.op_add_delete.specs.reading.NewEntries.{read_attribute, repeats}

-- the operation asks for nothing by these values: an add of no value, and another operation than the three
abbrev pub asks_nothing : ModifyOperation → List (List ℕ) → Bool
asks_nothing Add values = length values == 0
asks_nothing Delete values = false
asks_nothing Replace values = false
asks_nothing (Other other) values = true

-- no change that a request may ask for
abbrev pub is_no_change : Change → Bool
is_no_change given = asks_nothing given.operation given.body.values

-- what an operation asks for; another than the three is refused before it is read
abbrev pub change_of : ModifyOperation → ChangeKind
change_of Add = kind.Add
change_of Delete = kind.Delete
change_of Replace = kind.Replace
change_of (Other other) = kind.Replace

-- the change with the values of the attribute, of which no two may match
abbrev pub change_with : ChangeKind → Attribute → Result Modification ResultCode
change_with change attribute =
    if repeats is_match attribute.values then Err code.AttributeOrValueExists
    else Ok (record { change = change; kind = attribute.kind; values = attribute.values })

-- the change that a request lists
abbrev pub read_change : Change → Result Modification ResultCode
read_change given = read_attribute given.body >>= change_with (change_of given.operation)

-- the changes, or why the first that is none isn't
unfoldable pub read_each : List Change → Result (List Modification) ResultCode
read_each [] = Ok []
read_each (given ∷ rest) = read_change given >>= λ change. read_each rest >>= λ changes. Ok (change ∷ changes)

-- the changes of a request: each is one that may be asked for, and then each is read
unfoldable pub read_changes : List Change → Result (List Modification) ResultCode
read_changes given =
    if list_any is_no_change given then Err code.ProtocolError
    else read_each given
