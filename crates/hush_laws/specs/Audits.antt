-- What an audit of a connection answers: whether a subtree was hushed for it while all events were replayed, and whether what it
-- was sent then differs from what its own events alone get it.
use Rattle.std.specs.Prelude.{◌≡◌, ℕ, ◌+◌, ◌==◌, List, [], ◌∷◌, ◌++◌, codes, decimal, if◌then◌else◌, Option, Some, None}
use Rattle.std.specs.Str.{bytes_eq}
use Rattle.dir_tree.specs.dn_names.name.Names.{RdnSequence}
use Rattle.session_hub.specs.session_model.Run.{Step}
use Rattle.session_hub.specs.session_model.Replaying.{replayed}
use Rattle.session_hub.specs.session_model.Purging.{purged}
use Rattle.session_hub.specs.Parties.{DirectoryEntries}
use Rattle.session_hub.specs.declared.bounds.Terms.{Terms}
use Rattle.session_hub.specs.Answering.{rules}
use Rattle.hush_laws.specs.declared.part.Part.{Part}
use Rattle.hush_laws.specs.declared.part.Part.TheVariants.{Suffix, Others, Governs, Shown, Groups, Change, Bind, TurnedAway}
use Rattle.hush_laws.specs.declared.fault.Fault.{Fault}
use Rattle.hush_laws.specs.declared.audited.Audited.{Audited}
use Rattle.hush_laws.specs.Hush.{hush_of_replay}

-- how long the longest common front of two texts is
abbrev pub common_front : List ℕ → List ℕ → ℕ
common_front [] ys = 0
common_front (x ∷ xs) [] = 0
common_front (x ∷ xs) (y ∷ ys) = if x == y then 1 + common_front xs ys else 0

-- the same where the texts differ; None where they are the same
abbrev pub first_difference : List ℕ → List ℕ → Option ℕ
first_difference one other = if bytes_eq one other then None else Some (common_front one other)

-- what a connection is sent while events are replayed
abbrev pub reply_to : Terms → DirectoryEntries → List Step → ℕ → List ℕ
reply_to terms entries events number = ((replayed (rules terms) entries events).of number).reply

-- an audit of a connection over entries, events of all connections and the name of a subtree
pub record IsAudit (terms : Terms) (entries : DirectoryEntries) (events : List Step) (number : ℕ) (top : RdnSequence) (audited : Audited) : Type 0 where
  pub fault : audited.fault ≡ hush_of_replay terms entries events number top
  pub differs : audited.differs ≡ first_difference (reply_to terms entries events number) (reply_to terms entries (purged number events) number)

-- the number by which a part is told
abbrev pub part_number : Part → ℕ
part_number Suffix = 0
part_number Others = 1
part_number Governs = 2
part_number Shown = 3
part_number Groups = 4
part_number Change = 5
part_number Bind = 6
part_number TurnedAway = 7

-- the line of what breaks the hush first, if anything does
abbrev pub fault_text : Option Fault → List ℕ
fault_text None = codes "hush yes\n"
fault_text (Some fault) = codes "hush no at " ++ (decimal fault.heard ++ (codes ": part " ++ (decimal (part_number fault.part) ++ codes "\n")))

-- the line of where the replies differ, if they do
abbrev pub difference_text : Option ℕ → List ℕ
difference_text None = codes "same\n"
difference_text (Some count) = codes "differs at " ++ (decimal count ++ codes "\n")

-- the two lines of an audit
abbrev pub audit_text : Audited → List ℕ
audit_text audited = fault_text audited.fault ++ difference_text audited.differs
