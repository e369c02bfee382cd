-- A subentry has those of the entry above it, another entry those of the subentries in force.
use Rattle.std.proofs.Common.{◌++◌, List, [], map, sym, ap, ◌∙◌}
use Rattle.std.specs.Prelude.{flat_map}
use Rattle.std.specs.Option.{option_map_or}
use Rattle.dir_tree.specs.tree.Numbered.{superior_of}
use Rattle.acdf_filters.specs.Tuples.{prescriptive_aci, subentry_aci}
use Rattle.explanation.specs.declared.candidates.Candidate.{Candidate}
use Rattle.explanation.specs.Candidates.{described_for, described_all, listed_at}
use Rattle.explanation.proofs.candidates.CandidateLemmas.{inherited-subentry, inherited-ordinary}
use Rattle.explanation.proofs.candidates.inherited.Goals as goal

pub returns-then-is_subentry : goal.returns-then-is_subentry
returns-then-is_subentry c =
    let question = c.args.question.now in
    record {
      ok = c.in_ok-put_below.ensures.ok
          ∙ ap (λ (cs : List Candidate). described_all question.tree.now cs ++ map (described_for question) (option_map_or (listed_at question.tree.now subentry_aci) (superior_of c.args.number.0 question.tree.now) [])) c.new-found.ensures.items
          ∙ ap (map (described_for question)) (inherited-subentry question.tree.now question.entry.now c.args.number.0 c.entries_form_a_tree.ensures.exact (sym c.is_subentry.ensures.exact ∙ c.if-is_subentry.true) c.requires.entry);
    }

pub returns : goal.returns
returns c =
    let question = c.args.question.now in
    record {
      ok = c.in_ok-put_subentries.ensures.ok
          ∙ ap (λ (cs : List Candidate). described_all question.tree.now cs ++ map (described_for question) (flat_map (λ no. listed_at question.tree.now prescriptive_aci no.0) c.args.numbers.now)) c.new-found.ensures.items
          ∙ ap (map (described_for question)) (inherited-ordinary question.tree.now question.entry.now c.args.numbers.now (sym c.is_subentry.ensures.exact ∙ c.if-is_subentry.false) c.requires.in_force);
    }
