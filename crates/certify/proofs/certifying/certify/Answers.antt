-- The items that count, weighed, and the lines of all.
use Rattle.std.proofs.Common.{◌≡◌, List, [], ◌∷◌, ◌++◌, map, ap, ◌∙◌}
use Rattle.std.specs.Prelude.{flat_map, fold}
use Rattle.acdf_filters.specs.Standing.{initial}
use Rattle.acdf_filters.specs.declared.weighing.TaggedTuples.{TaggedTuples}
use Rattle.acdf_filters.specs.weighing.Weighing.{tagged_of, weighed_for, is_granted}
use Rattle.certify.specs.Lines.{line_of, whole}
use Rattle.certify.specs.Certificate.{outcome_word}
use Rattle.certify.specs.Making.{item_lines, tuples_in}
use Rattle.certify.proofs.certifying.CertifiedLemmas.{certificate-said, granted-said}
use Rattle.certify.proofs.certifying.certify.Goals as goal

pub returns : goal.returns
returns c =
    let question = c.args.question.now in
    let seen = c.weigh_items-seen.result in
    let items = map tagged_of c.in_ok-items.items.items in
    let weighed : seen ≡ fold (weighed_for question) initial (tuples_in items) =
    c.weigh_items-seen.ensures.exact ∙ ap (λ (xs : List TaggedTuples). fold (weighed_for question) initial (tuples_in (map tagged_of xs))) c.deref.ensures.value in
    record {
      ok = record {
        lines = certificate-said question items seen (map line_of c.in_ok-lines.lines.items) (map line_of c.put_decision.new.lines.items) c.in_ok-items.ensures.ok weighed c.in_ok-lines.ensures.ok
            (c.in_ok-put_decision.ensures.ok
            ∙ ap (λ (xs : List TaggedTuples). map line_of c.in_ok-lines.lines.items ++ (flat_map (item_lines question seen) (map tagged_of xs) ++ whole (outcome_word (is_granted seen)) ∷ [])) c.deref-2.ensures.value);
        granted = c.is_granted.ensures.exact ∙ granted-said question items seen c.in_ok-items.ensures.ok weighed;
      };
    }
