-- The test of all object identifiers is one of each class.
use Rattle.std.proofs.Common.{sym, ◌∙◌}
use Rattle.std.specs.Str.{bytes_eq}
use Rattle.dir_tree.specs.EntryClasses.{has_class, oids_of_listed}
use Rattle.dir_tree.proofs.classes.ClassLemmas.{list_any-flat_map}
use Rattle.dir_tree.proofs.entry.Entry.has_class.Goals as goal

pub returns : goal.returns
unfolding has_class
returns c = record {
  exact =
      c.is_any_kind_of.ensures.exact
      ∙ rw c.values.ensures.exact
      (sym (list_any-flat_map (bytes_eq c.args.oid.now) (λ value. oids_of_listed value.key) _));
}
