-- What a program makes is the certificate of the decision.
use Rattle.std.proofs.Common.{◌≡◌, Bool, List, [], ◌∷◌, ◌++◌, map, sym, ap, ◌∙◌}
use Rattle.std.specs.Prelude.{flat_map, fold}
use Rattle.std.proofs.lemmas.List.{append_assoc}
use Rattle.dir_tree.specs.Entry.{EntryInformation}
use Rattle.dir_tree.specs.tree.Numbered.{entries_of}
use Rattle.acdf_filters.specs.declared.question.Question.{Question}
use Rattle.acdf_filters.specs.declared.standing.Standing.{Standing}
use Rattle.acdf_filters.specs.Filters.{Placed, left_by_permission, decided}
use Rattle.acdf_filters.specs.Granted.{placed_of}
use Rattle.acdf_filters.specs.Standing.{initial, standing}
use Rattle.acdf_filters.specs.Tuples.{Listed, TaggedTuples, tuples_of}
use Rattle.acdf_filters.specs.weighing.Weighing.{asked_of, asked_ranks, keys_of, weighed_for, is_granted}
use Rattle.acdf_filters.proofs.Theorems.{standing-fold, decided-fold}
use Rattle.certify.specs.Lines.{Line, whole}
use Rattle.certify.specs.LastFilter.{last_filter}
use Rattle.certify.specs.Certificate.{tuple_line, outcome_word, question_lines, scope_lines, certificate}
use Rattle.certify.specs.Making.{tuple_line_for, item_lines, counting_items, tuples_in}
use Rattle.certify.proofs.ListLemmas.{map-both}
use Rattle.certify.proofs.certifying.TupleLemmas.{said-tuples, tuples_in-counting}

-- the entries of a question, the tuples that count, and these with their ranks
abbrev entries_for : Question → List EntryInformation
entries_for question = entries_of question.tree.now

abbrev tuples_for : Question → List Listed
tuples_for question = tuples_of (entries_for question) question.entry.now

abbrev placed_for : Question → List Placed
placed_for question = placed_of (entries_for question) question.who.now question.entry.now

-- the state in which all tuples leave the decision
state : (question : Question) (items : List TaggedTuples) (seen : Standing) → items ≡ counting_items (entries_for question) question.entry.now
    → seen ≡ fold (weighed_for question) initial (tuples_in items)
    → seen ≡ fold (weighed_for question) initial (map (λ x. x.tuple) (tuples_for question))
state question items seen gathered weighed =
    weighed
    ∙ ap (λ (xs : List TaggedTuples). fold (weighed_for question) initial (tuples_in xs)) gathered
    ∙ ap (fold (weighed_for question) initial) (tuples_in-counting (entries_for question) question.entry.now)

-- the lines of tuples by that state
lines-standing : (question : Question)
    → map (λ x. tuple_line_for question (standing (keys_of (asked_of question)) (left_by_permission (asked_of question) (placed_for question))) x.tag x.tuple) (tuples_for question)
    ≡ map (tuple_line (asked_of question) (placed_for question)) (placed_for question)
unfolding last_filter
lines-standing question =
    sym (map-both (λ (x : Listed). record { listed = x; ranks = asked_ranks question x.tuple }) (tuple_line (asked_of question) (placed_for question)) (tuples_for question))

-- those of all items
lines-said : (question : Question) (items : List TaggedTuples) (seen : Standing) → items ≡ counting_items (entries_for question) question.entry.now
    → seen ≡ fold (weighed_for question) initial (tuples_in items)
    → flat_map (item_lines question seen) items ≡ map (tuple_line (asked_of question) (placed_for question)) (placed_for question)
lines-said question items seen gathered weighed =
    ap (flat_map (item_lines question seen)) gathered
    ∙ said-tuples (tuple_line_for question seen) (entries_for question) question.entry.now
    ∙ ap (λ (state : Standing). map (λ x. tuple_line_for question state x.tag x.tuple) (tuples_for question))
    (state question items seen gathered weighed ∙ standing-fold question (tuples_for question))
    ∙ lines-standing question

-- what is decided
pub granted-said : (question : Question) (items : List TaggedTuples) (seen : Standing) → items ≡ counting_items (entries_for question) question.entry.now
    → seen ≡ fold (weighed_for question) initial (tuples_in items)
    → is_granted seen ≡ decided (asked_of question) (placed_for question)
granted-said question items seen gathered weighed =
    ap is_granted (state question items seen gathered weighed) ∙ decided-fold question (tuples_for question)

-- all lines
pub certificate-said : (question : Question) (items : List TaggedTuples) (seen : Standing) (first all : List Line) → items ≡ counting_items (entries_for question) question.entry.now
    → seen ≡ fold (weighed_for question) initial (tuples_in items)
    → first ≡ question_lines question.entry.now (asked_of question) ++ scope_lines (entries_for question) question.entry.now
    → all ≡ first ++ (flat_map (item_lines question seen) items ++ whole (outcome_word (is_granted seen)) ∷ [])
    → all ≡ certificate (entries_for question) (asked_of question) question.entry.now
unfolding certificate
certificate-said question items seen first all gathered weighed begun made =
    let asks = question_lines question.entry.now (asked_of question) in
    let scopes = scope_lines (entries_for question) question.entry.now in
    let tuples = map (tuple_line (asked_of question) (placed_for question)) (placed_for question) in
    let end = whole (outcome_word (is_granted seen)) ∷ [] in
    made
    ∙ ap (λ (lines : List Line). lines ++ (flat_map (item_lines question seen) items ++ end)) begun
    ∙ append_assoc asks scopes (flat_map (item_lines question seen) items ++ end)
    ∙ ap (λ (lines : List Line). asks ++ (scopes ++ (lines ++ end))) (lines-said question items seen gathered weighed)
    ∙ ap (λ (granted : Bool). asks ++ (scopes ++ (tuples ++ whole (outcome_word granted) ∷ []))) (granted-said question items seen gathered weighed)
