-- What a change of the entries comes to for a requester (RFC 4511 4.6 to 4.9).
use Rattle.std.specs.Prelude.{List}
use Rattle.dir_tree.specs.Entry.{EntryInformation}
use Rattle.acdf_filters.specs.declared.asking.Requester.{Requester}
use Rattle.op_add_delete.specs.adding.Updates.{Changed, added, deleted}
use Rattle.op_modify.specs.Modifying.{modified}
use Rattle.op_modify.specs.Renames.{renamed}
use Rattle.op_modify.specs.ldap_msg.declared.kinds.Update.{Update}
use Rattle.op_modify.specs.ldap_msg.declared.kinds.Update.TheVariants as update

-- the change that a request asks for
abbrev pub updated : List EntryInformation → Requester → Update → Changed
updated entries who (update.Modify modify) = modified entries who modify
updated entries who (update.Add add) = added entries who add
updated entries who (update.Delete delete) = deleted entries who delete
updated entries who (update.Rename rename) = renamed entries who rename
