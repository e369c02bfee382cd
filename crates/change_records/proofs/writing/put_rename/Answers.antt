use Rattle.std.proofs.Common.{◌≡◌, ◌++◌, List, ℕ, ◌∙◌, ap}
use Rattle.std.specs.Prelude.{codes}
use Rattle.std.specs.List.{flat_map}
use Rattle.std.proofs.lemmas.List.{append_assoc}
use Rattle.whole_blocks.specs.Blocks.{ended}
use Rattle.change_records.specs.Written.{row, flag_word, superior_rows}
use Rattle.change_records.proofs.JoinLemmas.{on_ok}
use Rattle.change_records.proofs.writing.put_rename.Goals as goal

-- texts one behind another
behind : (out one two three : List ℕ) → ((out ++ one) ++ two) ++ three ≡ out ++ (one ++ (two ++ three))
behind out one two three = append_assoc (out ++ one) two three ∙ append_assoc out one (two ++ three)

-- the three parts, one behind another
pub returns : goal.returns
returns c =
    let out = c.args.out.now.items in
    let rename = c.args.rename.now in
    let first = ended (row (codes "newrdn") rename.new_rdn) in
    let one = c.in_ok-put_row.ensures ∙ ap (λ value. out ++ ended (row (codes "newrdn") value)) c.as_slice.ensures.exact in
    let two =
    c.in_ok-put_row-2.ensures
    ∙ ap (λ text. text ++ ended (row (codes "deleteoldrdn") c.flag_word.result.now)) one
    ∙ ap (λ word. (out ++ first) ++ ended (row (codes "deleteoldrdn") word)) c.flag_word.ensures in
    let rest = flat_map ended (superior_rows rename.superior) in
    on_ok c.put_superior.result _ _
    (λ is. is ∙ ap (λ text. text ++ rest) two ∙ behind out first (ended (row (codes "deleteoldrdn") (flag_word rename.delete_old))) rest) c.put_superior.ensures
