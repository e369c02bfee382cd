-- The lines of a text, read one after the other.
use Rattle.std.proofs.Common.{◌≡◌, sym, ◌∙◌, ap, List, [], ◌∷◌, ◌++◌, Option, Some, None}
use Rattle.std.specs.Prelude.{IfNone}
use Rattle.std.proofs.lemmas.List.{append_assoc, append-nil}
use Rattle.ldif_records.specs.lines.Lines.{Line}
use Rattle.ldif_records.specs.reading.Steps.{ahead}

-- one line more
pub content-step : (whole done : List Line) (line : Option Line) (found : Line) (rest next : List Line) → whole ≡ done ++ ahead line rest → line ≡ Some found → rest ≡ next → whole ≡ (done ++ found ∷ []) ++ next
content-step whole done line found rest next was is same =
    was ∙ ap (λ read. done ++ ahead read rest) is ∙ ap (λ rest. done ++ found ∷ rest) same ∙ sym (append_assoc done (found ∷ []) next)

-- none is left
pub content-done : (whole done : List Line) (line : Option Line) (rest : List Line) → whole ≡ done ++ ahead line rest → IfNone line (rest ≡ []) → line ≡ None → whole ≡ done
content-done whole done None rest was end is = was ∙ ap (λ rest. done ++ rest) end ∙ append-nil done
content-done whole done (Some found) rest was end is = absurd cc
