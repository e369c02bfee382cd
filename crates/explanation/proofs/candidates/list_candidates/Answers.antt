-- Those from others, and its own.
use Rattle.std.proofs.Common.{◌++◌, List, map, sym, ap, ◌∙◌}
use Rattle.std.proofs.lemmas.List.{map-append}
use Rattle.dir_tree.specs.tree.Numbered.{entries_of}
use Rattle.acdf_filters.specs.Tuples.{inherited, entry_aci}
use Rattle.explanation.specs.Candidates.{Described, described_for, listed_at}
use Rattle.explanation.proofs.candidates.CandidateLemmas.{counting}
use Rattle.explanation.proofs.candidates.list_candidates.Goals as goal

pub returns : goal.returns
returns c =
    let question = c.args.question.now in
    let own = listed_at question.tree.now entry_aci c.args.number.0 in
    record {
      ok = c.in_ok-put_values.ensures.ok
          ∙ ap (λ (ds : List Described). ds ++ map (described_for question) own) c.in_ok-found.ensures.ok
          ∙ sym (map-append (described_for question) (inherited (entries_of question.tree.now) question.entry.now) own)
          ∙ ap (map (described_for question)) (counting question.tree.now question.entry.now c.args.number.0 c.requires.entry);
    }
