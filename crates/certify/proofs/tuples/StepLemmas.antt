-- One tuple more.
use Rattle.std.proofs.Common.{◌≡◌, ℕ, List, [], ◌∷◌, ◌++◌, map, sym, ap, ◌∙◌}
use Rattle.std.specs.Prelude.{fold}
use Rattle.std.proofs.lemmas.List.{append_assoc}
use Rattle.acdf_filters.specs.aci_item.item.Views.{tuple_of}
use Rattle.acdf_filters.specs.aci_item.declared.splitting.AciTuple as code
use Rattle.acdf_filters.specs.declared.question.Question.{Question}
use Rattle.acdf_filters.specs.declared.standing.Standing.{Standing}
use Rattle.acdf_filters.specs.weighing.Weighing.{weighed_for}
use Rattle.certify.specs.Lines.{Line}
use Rattle.certify.specs.Making.{tuple_line_for}

-- weighed behind others
pub one_weighed : (question : Question) (tuple : code.AciTuple) (rest all : List code.AciTuple) → all ≡ tuple ∷ rest → (before after whole : Standing)
    → after ≡ weighed_for question before (tuple_of tuple)
    → fold (weighed_for question) before (map tuple_of all) ≡ whole → fold (weighed_for question) after (map tuple_of rest) ≡ whole
one_weighed question tuple rest all next before after whole put invariant =
    ap (λ (seen : Standing). fold (weighed_for question) seen (map tuple_of rest)) put
    ∙ ap (λ (xs : List code.AciTuple). fold (weighed_for question) before (map tuple_of xs)) (sym next)
    ∙ invariant

-- put behind others
pub one_put : (question : Question) (seen : Standing) (tag : List ℕ) (tuple : code.AciTuple) (rest all : List code.AciTuple) → all ≡ tuple ∷ rest → (before after whole : List Line)
    → after ≡ before ++ tuple_line_for question seen tag (tuple_of tuple) ∷ []
    → before ++ map (tuple_line_for question seen tag) (map tuple_of all) ≡ whole → after ++ map (tuple_line_for question seen tag) (map tuple_of rest) ≡ whole
one_put question seen tag tuple rest all next before after whole put invariant =
    let left : List code.AciTuple → List Line = λ xs. map (tuple_line_for question seen tag) (map tuple_of xs) in
    ap (λ (lines : List Line). lines ++ left rest) put
    ∙ append_assoc before (tuple_line_for question seen tag (tuple_of tuple) ∷ []) (left rest)
    ∙ ap (λ (xs : List code.AciTuple). before ++ left xs) (sym next)
    ∙ invariant
