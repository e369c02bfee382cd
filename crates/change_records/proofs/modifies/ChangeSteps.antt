-- The changes of lines, read one line after the other.
use Rattle.std.proofs.Common.{◌≡◌, ℕ, ◌+◌, ◌∙◌, ap, refl, List, [], ◌∷◌, ◌++◌, drop, Option, Some, None, Result, Ok}
use Rattle.std.proofs.lemmas.List.{append-nil}
use Rattle.dir_tree.specs.plain_values.Results.{◌>>=◌}
use Rattle.dir_tree.specs.plain_values.Answers.{IsFaultOf}
use Rattle.ldap_msg.specs.declared.kinds.Change.{Change}
use Rattle.ldif_records.specs.declared.types.BadLine.{BadLine}
use Rattle.ldif_records.specs.reading.Faults.{LineFault, fault_of}
use Rattle.ldif_records.specs.lines.Lines.{Line}
use Rattle.change_records.specs.Reading.{going_on, ended_by, all_ended, changes_in}
use Rattle.change_records.proofs.JoinLemmas.{joined, joined-more, fault-first}

pub changes-step : (number : ℕ) (done : List Change) (before next : Option Change) (lines : List Line) (index : ℕ) (line : Line)
    → drop index lines ≡ line ∷ drop (index + 1) lines → going_on before line ≡ Ok next
    → joined done (changes_in number before (drop index lines)) ≡ joined (done ++ ended_by before line) (changes_in number next (drop (index + 1) lines))
unfolding changes_in
changes-step number done before next lines index line left good =
    ap (λ left. joined done (changes_in number before left)) left
    ∙ ap (λ first. joined done (first >>= λ next. changes_in number next (drop (index + 1) lines) >>= λ others. Ok (ended_by before line ++ others))) good
    ∙ joined-more done (ended_by before line) (changes_in number next (drop (index + 1) lines))

pub changes-fault : (number : ℕ) (done : List Change) (before : Option Change) (lines : List Line) (index : ℕ) (line : Line) (bad : BadLine) (all : Result (List Change) LineFault)
    → drop index lines ≡ line ∷ drop (index + 1) lines → all ≡ joined done (changes_in number before (drop index lines)) → IsFaultOf (fault_of bad) (going_on before line) → IsFaultOf (fault_of bad) all
unfolding changes_in
changes-fault number done before lines index line bad all left is says =
    fault-first bad (going_on before line) (λ next. changes_in number next (drop (index + 1) lines) >>= λ others. Ok (ended_by before line ++ others)) done all
    (is ∙ ap (λ left. joined done (changes_in number before left)) left) says

-- no line is left: the last change ended, or lacks its hyphen
joined-ended : (number : ℕ) (done : List Change) (before : Option Change) → joined done (all_ended number [] before) ≡ all_ended number done before
joined-ended number done None = ap Ok (append-nil done)
joined-ended number done (Some change) = refl

pub changes-done : (number : ℕ) (done : List Change) (before : Option Change) (left : List Line) → left ≡ [] → joined done (changes_in number before left) ≡ all_ended number done before
unfolding changes_in
changes-done number done before left none = ap (λ left. joined done (changes_in number before left)) none ∙ joined-ended number done before
