-- The form of a certificate's text, and the question that it states: four lines of what was asked, then lines about
-- subentries, then lines about tuples, and one about the outcome, each ended by LF. The first line that isn't so is told.
use Rattle.std.specs.Prelude.{ℕ, ◌+◌, ◌&&◌, Bool, true, false, List, [], ◌∷◌, codes, Option, Some, None, Result, Ok, Err, if◌then◌else◌}
use Rattle.dir_tree.specs.dn_names.name.Names.{RdnSequence}
use Rattle.dir_tree.specs.dn_names.Printing.{is_empty}
use Rattle.acdf_filters.specs.declared.asking.Requester.{Requester}
use Rattle.acdf_filters.specs.Asking.{Protected}
use Rattle.line_text.specs.Lines.{lines_of, rest_of}
use Rattle.explanation.specs.NameWords.{who_of, name_in}
use Rattle.explanation.specs.PermissionWords.{permission_of}
use Rattle.explanation.specs.Questions.{Question}
use Rattle.certify.specs.declared.fault.CertFault.{CertFault}
use Rattle.certify.specs.declared.fault.CertFault.TheVariants.{Form, False, NoMemory}
use Rattle.certify.specs.declared.form_lines.Part.{Part}
use Rattle.certify.specs.declared.form_lines.Part.TheVariants.{Scopes, Tuples, Outcome}
use Rattle.certify.specs.FormLines.{behind, item_in, part_after}

-- the cause that a fault tells, if any: want of memory is none
abbrev pub cause_of : CertFault → Option CertFault
cause_of (Form line) = Some (Form line)
cause_of (False line) = Some (False line)
cause_of NoMemory = None

-- go on with what a line says, or refuse the line of this number where it says nothing
abbrev pub or_form : {A B : Type 0} → ℕ → Option A → (A → Result B CertFault) → Result B CertFault
or_form number None go = Err (Form number)
or_form number (Some found) go = go found

-- go on with what the first line says, which has the number, and the lines behind it
abbrev pub stated : {A B : Type 0} → ℕ → (List ℕ → Option A) → List (List ℕ) → (A → List (List ℕ) → Result B CertFault) → Result B CertFault
stated number read [] go = Err (Form number)
stated number read (line ∷ lines) go = or_form number (read line) (λ found. go found lines)

-- the outcome has come
abbrev pub is_last : Part → Bool
is_last Scopes = false
is_last Tuples = false
is_last Outcome = true

-- the lines from this number on, behind one of the part: they end with the outcome, and nothing stands behind the last LF
abbrev pub body_from : {A : Type 0} → ℕ → Part → List ℕ → A → List (List ℕ) → Result A CertFault
body_from number part rest found [] = if is_last part && is_empty rest then Ok found else Err (Form number)
body_from number part rest found (line ∷ lines) = or_form number (part_after part line) (λ next. body_from (number + 1) next rest found lines)

-- the question of a requester on an item of an entry, from the line of the permission on
abbrev pub from_permission : Requester → RdnSequence → Protected → List ℕ → List (List ℕ) → Result Question CertFault
from_permission who target item rest lines =
    stated 4 (behind (codes "permission ") permission_of) lines
    (λ permission lines. body_from 5 Scopes rest (record { who = who; target = target; item = item; permission = permission }) lines)

-- from the line of the item on
abbrev pub from_item : Requester → RdnSequence → List ℕ → List (List ℕ) → Result Question CertFault
from_item who target rest lines = stated 3 (behind (codes "item ") item_in) lines (λ item lines. from_permission who target item rest lines)

-- from the line of the target on
abbrev pub from_target : Requester → List ℕ → List (List ℕ) → Result Question CertFault
from_target who rest lines = stated 2 (behind (codes "target ") name_in) lines (λ target lines. from_item who target rest lines)

-- the question that a text states which is in the form, or its first bad line: where all lines are good and the text ends
-- too early, or in a line without LF, that is the one behind the last
unfoldable pub form_of : List ℕ → Result Question CertFault
form_of text = stated 1 (behind (codes "who ") who_of) (lines_of text) (λ who lines. from_target who (rest_of text) lines)
