-- The attributes of lines, read one line after the other.
use Rattle.std.proofs.Common.{◌≡◌, ℕ, ◌+◌, ◌∙◌, ap, List, [], ◌∷◌, ◌++◌, drop, Option, Some, Result, Ok}
use Rattle.dir_tree.specs.plain_values.Results.{◌>>=◌}
use Rattle.dir_tree.specs.plain_values.Answers.{IsFaultOf}
use Rattle.ldap_msg.specs.declared.kinds.KindValues.{KindValues}
use Rattle.ldif_records.specs.declared.types.BadLine.{BadLine}
use Rattle.ldif_records.specs.declared.types.RecordLine.{RecordLine}
use Rattle.ldif_records.specs.reading.Faults.{LineFault, fault_of}
use Rattle.ldif_records.specs.lines.Lines.{Line}
use Rattle.ldif_records.specs.Fields.{attribute_line}
use Rattle.change_records.specs.Reading.{attribute_with, whole_before, whole_last, attributes_in}
use Rattle.change_records.proofs.JoinLemmas.{joined, joined-more, fault-first}

pub attributes-step : (done : List KindValues) (before : Option KindValues) (lines : List Line) (index : ℕ) (line : Line) (read : RecordLine)
    → drop index lines ≡ line ∷ drop (index + 1) lines → attribute_line line ≡ Ok read
    → joined done (attributes_in before (drop index lines)) ≡ joined (done ++ whole_before before read) (attributes_in (Some (attribute_with before read)) (drop (index + 1) lines))
unfolding attributes_in
attributes-step done before lines index line read left good =
    ap (λ left. joined done (attributes_in before left)) left
    ∙ ap (λ first. joined done (first >>= λ read. attributes_in (Some (attribute_with before read)) (drop (index + 1) lines) >>= λ others. Ok (whole_before before read ++ others))) good
    ∙ joined-more done (whole_before before read) (attributes_in (Some (attribute_with before read)) (drop (index + 1) lines))

pub attributes-fault : (done : List KindValues) (before : Option KindValues) (lines : List Line) (index : ℕ) (line : Line) (bad : BadLine) (all : Result (List KindValues) LineFault)
    → drop index lines ≡ line ∷ drop (index + 1) lines → all ≡ joined done (attributes_in before (drop index lines)) → IsFaultOf (fault_of bad) (attribute_line line) → IsFaultOf (fault_of bad) all
unfolding attributes_in
attributes-fault done before lines index line bad all left is says =
    fault-first bad (attribute_line line) (λ read. attributes_in (Some (attribute_with before read)) (drop (index + 1) lines) >>= λ others. Ok (whole_before before read ++ others)) done all
    (is ∙ ap (λ left. joined done (attributes_in before left)) left) says

pub attributes-done : (done : List KindValues) (before : Option KindValues) (left : List Line) → left ≡ [] → joined done (attributes_in before left) ≡ Ok (done ++ whole_last before)
unfolding attributes_in
attributes-done done before left none = ap (λ left. joined done (attributes_in before left)) none
