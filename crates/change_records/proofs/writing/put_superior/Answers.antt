use Rattle.std.proofs.Common.{◌++◌, sym, ◌∙◌, ap}
use Rattle.std.specs.Prelude.{codes}
use Rattle.std.specs.List.{flat_map}
use Rattle.std.proofs.lemmas.List.{append-nil}
use Rattle.whole_blocks.specs.Blocks.{ended}
use Rattle.change_records.specs.Written.{row, superior_rows}
use Rattle.change_records.proofs.writing.put_superior.Goals as goal

-- there is one
pub returns-in_ok-put_row : goal.returns-in_ok-put_row
returns-in_ok-put_row c =
    c.in_ok-put_row.ensures
    ∙ ap (λ value. c.args.out.now.items ++ ended (row (codes "newsuperior") value)) c.as_slice.ensures.exact
    ∙ ap (λ text. c.args.out.now.items ++ text) (sym (append-nil _))
    ∙ ap (λ found. c.args.out.now.items ++ flat_map ended (superior_rows found)) (sym c.in-Some.is)
