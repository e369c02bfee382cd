-- The number of the front is that of the entry that has its name.
use Rattle.std.proofs.Common.{◌∙◌, sym, ap, Option}
use Rattle.dir_tree.specs.Entry.{EntryInformation}
use Rattle.dir_tree.specs.tree.Numbered.{entries_of, entry_of}
use Rattle.std.specs.Option.{option_and_then}
use Rattle.dir_tree.specs.declared.number.EntryNo.{EntryNo}
use Rattle.acdf_filters.specs.Granted.{is_disclosed}
use Rattle.directory.specs.Fronts.{where_passes}
use Rattle.directory.proofs.nearest.NearestLemmas.{front-at}
use Rattle.directory.proofs.nearest.disclosed_front.Goals as goal

pub returns-in-Some : goal.returns-in-Some
returns-in-Some g c =
    let rows = g.D.Dir.rows c.args.asking.now.dir.now in
    record {
      exact = c.disclosed_at.ensures.exact
          ∙ ap (λ (found : Option EntryInformation). where_passes (is_disclosed (entries_of rows) c.args.asking.now.who.now) found)
          (ap (option_and_then (λ (no : EntryNo). entry_of no.0 rows)) (sym c.in-Some.is)
          ∙ front-at rows c.tree-tree.result.now c.args.len c.args.name.now c.find_prefix.result c.tree-tree.ensures.exact c.entries_form_a_tree.ensures.exact c.requires.len c.find_prefix.ensures.exact);
    }

pub returns-in-None : goal.returns-in-None
returns-in-None g c =
    let rows = g.D.Dir.rows c.args.asking.now.dir.now in
    record {
      exact = ap (λ (found : Option EntryInformation). where_passes (is_disclosed (entries_of rows) c.args.asking.now.who.now) found)
          (ap (option_and_then (λ (no : EntryNo). entry_of no.0 rows)) (sym c.in-None.is)
          ∙ front-at rows c.tree-tree.result.now c.args.len c.args.name.now c.find_prefix.result c.tree-tree.ensures.exact c.entries_form_a_tree.ensures.exact c.requires.len c.find_prefix.ensures.exact);
    }
