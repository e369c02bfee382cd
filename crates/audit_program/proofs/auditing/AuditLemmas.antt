-- What the replays of a script say together.
use Rattle.std.proofs.Common.{◌≡◌, ◌≤◌, ℕ, List, Option, ap, ◌∙◌, subst}
use Rattle.command_files.specs.script_text.declared.event.ScriptEvent.{ScriptEvent}
use Rattle.command_files.specs.dn_names.name.Names.{RdnSequence}
use Rattle.event_replay.specs.Played.{played_steps}
use Rattle.session_hub.specs.session_model.Run.{Step}
use Rattle.session_hub.specs.session_model.Purging.{purged, openings}
use Rattle.session_hub.specs.Parties.{DirectoryEntries}
use Rattle.session_hub.specs.Terms.{no_terms}
use Rattle.hush_laws.specs.declared.fault.Fault.{Fault}
use Rattle.hush_laws.specs.Hush.{hush_of_replay}
use Rattle.hush_laws.specs.Audits.{IsAudit, first_difference, reply_to}
use Rattle.audit_program.specs.Performing.{difference_of}

-- both answers over the events as they are played are those over the script's steps
pub IsAudit-found :
    (entries : DirectoryEntries) (steps : List Step) (events lent : List ScriptEvent) (number : ℕ) (top : RdnSequence) (fault : Option Fault) (differs : Option ℕ)
    → played_steps events ≡ steps → lent ≡ events → fault ≡ hush_of_replay no_terms entries (played_steps lent) number top → differs ≡ difference_of entries (played_steps events) number
    → IsAudit no_terms entries steps number top (record { fault = fault; differs = differs })
unfolding difference_of
IsAudit-found entries steps events lent number top fault differs steps_are same is_fault is_difference = record {
  fault = is_fault ∙ ap (λ all. hush_of_replay no_terms entries all number top) (ap played_steps same ∙ steps_are);
  differs = is_difference ∙ ap (λ all. first_difference (reply_to no_terms entries all number) (reply_to no_terms entries (purged number all) number)) steps_are;
}

-- so no number opens twice in those
pub openings-steps : (steps : List Step) (events : List ScriptEvent) (number : ℕ) → played_steps events ≡ steps → openings number (played_steps events) ≤ 1 → openings number steps ≤ 1
openings-steps steps events number steps_are once = subst (λ all. openings number all ≤ 1) steps_are once

-- two replies differ as the replays do that they are of
pub difference_of-found :
    (entries copied : DirectoryEntries) (steps own : List Step) (number : ℕ) (all alone : List ℕ) (differs : Option ℕ)
    → differs ≡ first_difference all alone → all ≡ reply_to no_terms entries steps number → alone ≡ reply_to no_terms copied own number → copied ≡ entries → own ≡ purged number steps
    → differs ≡ difference_of entries steps number
unfolding difference_of
difference_of-found entries copied steps own number all alone differs is_difference is_all is_alone same_entries same_steps =
    is_difference ∙ ap (λ text. first_difference text alone) is_all
    ∙ ap (λ text. first_difference (reply_to no_terms entries steps number) text)
    (is_alone ∙ ap (λ tree. reply_to no_terms tree own number) same_entries ∙ ap (λ events. reply_to no_terms entries events number) same_steps)
