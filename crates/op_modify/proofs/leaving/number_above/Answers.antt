-- The front of the name that lacks one RDN.
use Rattle.std.proofs.Common.{ℕ, ◌-◌, Option, ap, sym, ◌∙◌}
use Rattle.std.specs.Prelude.{unwrap_or}
use Rattle.dir_tree.specs.dn_names.name.Names.{RdnSequence}
use Rattle.dir_tree.specs.tree.Trees.{superior_name}
use Rattle.dir_tree.specs.tree.Numbered.{find_name}
use Rattle.dir_tree.proofs.TreeTheorems.{front_of_superior}
use Rattle.op_modify.proofs.leaving.number_above.Goals as goal

pub returns-in-None : goal.returns-in-None
returns-in-None c = record {
  exact =
      c.find_prefix.ensures.exact
      ∙ front_of_superior c.args.renaming.now.name c.saturating_sub-len.result c.args.tree.now (c.saturating_sub-len.ensures ∙ ap (λ (len : ℕ). len - 1) c.len.ensures.exact)
      ∙ ap (λ (superior : Option RdnSequence). find_name (unwrap_or superior (superior_name c.args.renaming.now.name)) c.args.tree.now) (sym c.in-None.is);
}
