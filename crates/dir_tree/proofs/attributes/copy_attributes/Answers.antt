-- A copy goes last, as its attribute stands after those copied.
use Rattle.std.proofs.Common.{◌++◌, sym, ap, ◌∙◌}
use Rattle.dir_tree.specs.attributes.Rows.{attribute_of, attributes_of}
use Rattle.dir_tree.proofs.entry.GoodLemmas.{distinct-kinds}
use Rattle.dir_tree.proofs.attributes.ChangeLemmas.{has_kind-before, append-copy}
use Rattle.dir_tree.proofs.attributes.copy_attributes.Goals as goal

-- no type stands twice
pub put_attribute-requires : goal.put_attribute-requires
put_attribute-requires c =
    let so_far = ap (λ left. attributes_of c.loop-kind.copies.entries ++ attributes_of left) (sym c.in-Some.ensures.steps)
    ∙ c.loop-kind.invariant in
    has_kind-before (attributes_of c.loop-kind.copies.entries) (attribute_of (c.in-Some.kind.now, c.in-Some.values.now))
    (attributes_of c.next.new.self)
    (rw so_far (distinct-kinds c.args.attributes.now.entries c.iter-kind-items.ensures.unique))

pub loop-kind-preserved : goal.loop-kind-preserved
loop-kind-preserved c =
    let so_far = ap (λ left. attributes_of c.loop-kind.copies.entries ++ attributes_of left) (sym c.in-Some.ensures.steps)
    ∙ c.loop-kind.invariant in
    ap (λ done. done ++ attributes_of c.next.new.self) c.in_ok-put_attribute.ensures.ok
    ∙ append-copy (attributes_of c.args.attributes.now.entries) (attributes_of c.loop-kind.copies.entries)
    (attributes_of c.next.new.self) c.in-Some.kind.now.0 c.in-Some.values.now c.in_ok-copy.field-0 so_far
    c.in_ok-copy.ensures.ok
