-- The types are the map's keys.
use Rattle.std.proofs.Common.{sym, ap, ◌∙◌}
use Rattle.std.specs.Option.{option_map}
use Rattle.dir_tree.proofs.entry.RowLemmas.{slice_get-kinds}
use Rattle.dir_tree.proofs.entry.Entry.kind_at.Goals as goal

pub returns : goal.returns
returns c = record {
  exact =
      rw (← c.self.view_is)
      (ap (option_map (λ row. row.0.0)) c.in_ok-kind.ensures.entry
      ∙ sym (slice_get-kinds c.self.inside.attributes.entries c.args.index));
}
