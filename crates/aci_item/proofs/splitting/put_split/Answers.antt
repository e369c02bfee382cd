-- What is granted, and then what is denied.
use Rattle.std.proofs.Common.{[], ◌∷◌, ◌++◌, true, false, map, ap, ◌∙◌}
use Rattle.aci_item.specs.AciTuples.{kept, tuple_with}
use Rattle.aci_item.specs.item.Views.{classes_of, items_of, tuple_of}
use Rattle.aci_item.proofs.splitting.TupleLemmas.{put_two}
use Rattle.aci_item.proofs.splitting.put_split.Goals as goal

pub returns : goal.returns
returns c =
    let old = map tuple_of c.args.tuples.now.items in
    let middle = map tuple_of c.put_tuple.new.tuples.items in
    let new = map tuple_of c.put_tuple-2.new.tuples.items in
    let tuple = tuple_with c.args.level c.args.precedence (classes_of c.args.classes.now.value) (items_of c.args.items.now.value) c.args.bits.now in
    record {
      ok = put_two old middle new (tuple true) (tuple false)
          (c.in_ok-put_tuple.ensures.ok ∙ ap (λ t. old ++ kept (t ∷ [])) c.in_ok-granting.ensures.ok)
          (c.in_ok-put_tuple-2.ensures.ok ∙ ap (λ t. middle ++ kept (t ∷ [])) c.in_ok-denying.ensures.ok);
    }
