-- What is written is the text, part by part.
use Rattle.std.proofs.Common.{◌++◌, List, map, ap, ◌∙◌}
use Rattle.std.specs.Prelude.{flat_map, string_bytes, ℕ}
use Rattle.dir_tree.specs.tree.Numbered.{Numbered, entries_at}
use Rattle.acdf_filters.specs.Asking.{protected_of, asked_on}
use Rattle.explanation.specs.declared.steps.KeptTuple.{KeptTuple}
use Rattle.explanation.specs.Explained.{kept_at}
use Rattle.explanation.specs.Texts.{subentry_line, kept_line}
use Rattle.explanation.proofs.texts.TextLemmas.{text-said}
use Rattle.explanation.proofs.texts.entry_text.Goals as goal

pub returns : goal.returns
returns g c = record {
  ok = λ entry known.
      let rows = g.D.Dir.rows c.args.dir.now in
      let numbers = map (λ no. no.0) c.in_force.result.now in
      text-said rows entry (asked_on c.args.who.now entry (protected_of c.args.item) c.args.permission) c.in_ok-steps.steps (entries_at rows numbers)
      (string_bytes c.new-text.result) (string_bytes c.put_subentries.new.out) (string_bytes c.put_counts.new.out) (string_bytes c.put_all_kept.new.out) (string_bytes c.push_str.new.self)
      (c.in_ok-steps.ensures.ok entry known) (c.in_force.ensures.exact entry known)
      c.new-text.ensures.bytes
      (c.in_ok-put_subentries.ensures.ok ∙ ap (λ (t : List Numbered). string_bytes c.new-text.result ++ flat_map subentry_line (entries_at t numbers)) c.tree.ensures.exact)
      c.in_ok-put_counts.ensures.ok
      (c.in_ok-put_all_kept.ensures.ok
      ∙ ap (λ (t : List Numbered). string_bytes c.put_counts.new.out ++ flat_map kept_line (map (kept_at t) c.deref.result.now)) c.tree-2.ensures.exact
      ∙ ap (λ (ks : List KeptTuple). string_bytes c.put_counts.new.out ++ flat_map kept_line (map (kept_at rows) ks)) c.deref.ensures.value)
      (c.in_ok-push_str.ensures.bytes ∙ ap (λ (t : List ℕ). string_bytes c.put_all_kept.new.out ++ t) c.outcome_line.ensures.exact);
}
