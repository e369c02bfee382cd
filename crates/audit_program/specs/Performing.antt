-- What the parts of the program promise each other.
use Rattle.std.specs.Prelude.{◌≡◌, ◌⊎◌, ℕ, List, Option}
use Rattle.command_files.specs.script_text.declared.event.ScriptEvent.{ScriptEvent}
use Rattle.command_files.specs.dn_names.name.Names.{RdnSequence}
use Rattle.command_files.specs.Ending.{EndsBy}
use Rattle.command_files.specs.Outside.{Written}
use Rattle.session_hub.specs.session_model.Run.{Step}
use Rattle.session_hub.specs.session_model.Purging.{purged}
use Rattle.session_hub.specs.Parties.{DirectoryEntries}
use Rattle.session_hub.specs.Terms.{no_terms}
use Rattle.hush_laws.specs.declared.audited.Audited.{Audited}
use Rattle.hush_laws.specs.Audits.{audit_text, first_difference, reply_to}
use Rattle.audit_program.specs.declared.status.AuditStatus.{AuditStatus}
use Rattle.audit_program.specs.declared.status.AuditStatus.TheVariants.{Done, NoMemory}
use Rattle.audit_program.specs.Auditing.{IsSoundAudit, Comes, Outside}
use Rattle.audit_program.specs.Statuses.{put_statuses}
use Rattle.audit_program.specs.Words.{AuditView, IsAsked}

-- after how many octets what a connection is sent differs from what its own events alone get it
unfoldable pub difference_of : DirectoryEntries → List Step → ℕ → Option ℕ
difference_of entries events number = first_difference (reply_to no_terms entries events number) (reply_to no_terms entries (purged number events) number)

-- an audit of these entries and events was to be put; or there was no memory for it, and nothing was
unfoldable pub Tells : DirectoryEntries → List ScriptEvent → ℕ → RdnSequence → Written → AuditStatus → Written → Type 0
Tells entries events number top before status after =
    ((audited : Audited) × IsSoundAudit entries events number top audited × EndsBy put_statuses (audit_text audited) Done before status after)
    ⊎ ((status ≡ NoMemory) × (after ≡ before))

-- the audit came to what comes with every words that ask for it
unfoldable pub Performs : AuditView → Outside → AuditStatus → Outside → Type 0
Performs asked before status after =
    (wanted : AuditStatus) × (text : List ℕ) × ((words : List (List ℕ)) → IsAsked words asked → Comes words before.shelf after.shelf wanted text)
    × EndsBy put_statuses text wanted before.out status after.out
