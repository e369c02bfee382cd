-- A subentry has those of the entry above it, another entry those of the subentries in force.
use Rattle.std.proofs.Common.{◌++◌, List, [], map, sym, ap, ◌∙◌}
use Rattle.std.specs.Prelude.{flat_map}
use Rattle.std.specs.Option.{option_map_or}
use Rattle.dir_tree.specs.tree.Numbered.{superior_of}
use Rattle.acdf_filters.specs.Tuples.{prescriptive_aci, subentry_aci}
use Rattle.acdf_filters.specs.declared.weighing.TaggedTuples.{TaggedTuples}
use Rattle.acdf_filters.specs.weighing.Weighing.{tagged_of}
use Rattle.certify.specs.Making.{items_at}
use Rattle.certify.proofs.gathering.ItemLemmas.{items-subentry, items-ordinary}
use Rattle.certify.proofs.gathering.inherited.Goals as goal

pub returns-then-is_subentry : goal.returns-then-is_subentry
returns-then-is_subentry c =
    let rows = c.args.tree.now in
    record {
      ok = c.in_ok-put_above.ensures.ok
          ∙ ap (λ (items : List TaggedTuples). map tagged_of items ++ option_map_or (items_at rows subentry_aci) (superior_of c.args.number.0 rows) []) c.new-items.ensures.items
          ∙ items-subentry rows c.args.entry.now c.args.number.0 c.entries_form_a_tree.ensures.exact (sym c.is_subentry.ensures.exact ∙ c.if-is_subentry.true) c.requires.entry;
    }

pub returns : goal.returns
returns c =
    let rows = c.args.tree.now in
    record {
      ok = c.in_ok-put_subentries.ensures.ok
          ∙ ap (λ (items : List TaggedTuples). map tagged_of items ++ flat_map (items_at rows prescriptive_aci) (map (λ no. no.0) c.args.numbers.now)) c.new-items.ensures.items
          ∙ items-ordinary rows c.args.entry.now (map (λ no. no.0) c.args.numbers.now) (sym c.is_subentry.ensures.exact ∙ c.if-is_subentry.false) c.requires.in_force;
    }
