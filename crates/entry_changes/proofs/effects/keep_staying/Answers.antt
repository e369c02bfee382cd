-- What stays takes the place of all.
use Rattle.std.proofs.Common.{◌≡◌, sym, ◌∙◌, ap, subst, List}
use Rattle.std.specs.List.{IsDistinct}
use Rattle.std.proofs.lemmas.Result.{IfOk-weaker}
use Rattle.dir_tree.specs.dn_names.name.Names.{Keyed}
use Rattle.dir_tree.specs.Entry.{values_of, is_match}
use Rattle.entry_changes.specs.declared.kind.ChangeKind.TheVariants.{Replace}
use Rattle.entry_changes.specs.Change.{left_by}
use Rattle.entry_changes.specs.Steps.{staying}
use Rattle.entry_changes.proofs.effects.TakenLemmas.{distinct-staying, keeping}
use Rattle.entry_changes.proofs.effects.keep_staying.Goals as goal

pub replace_values-requires : goal.replace_values-requires
replace_values-requires c =
    let left : c.in_ok-left.left.items ≡ staying c.args.gone.now (values_of c.args.kind.0 c.args.entry.now.attributes) = c.in_ok-left.ensures.ok ∙ ap (staying c.args.gone.now) c.values.ensures.exact in
    record {
      distinct = subst (λ (values : List Keyed). IsDistinct is_match values) (sym left) (distinct-staying c.args.kind.0 c.args.gone.now c.args.entry.now.attributes c.is_good.ensures.good);
    }

pub returns : goal.returns
returns c =
    let left : c.in_ok-left.left.items ≡ staying c.args.gone.now (values_of c.args.kind.0 c.args.entry.now.attributes) = c.in_ok-left.ensures.ok ∙ ap (staying c.args.gone.now) c.values.ensures.exact in
    record {
      ok = IfOk-weaker c.replace_values.result _ _
          (λ done is. is ∙ ap (λ (values : List Keyed). left_by Replace c.args.kind.0 values c.args.entry.now) left ∙ keeping c.args.kind.0 c.args.gone.now c.args.entry.now c.is_good.ensures.good)
          c.replace_values.ensures.ok;
    }
