-- A subtree more.
use Rattle.std.proofs.Common.{◌≡◌, ◌∷◌, ◌++◌, ◌∙◌, List, ap, sym, drop, add-one, map}
use Rattle.std.specs.Prelude.{◌+◌, flat_map, string_bytes}
use Rattle.std.proofs.Math.Seq.{drop-cons}
use Rattle.subtree_spec.specs.declared.spec.Spec.{Spec}
use Rattle.subtree_spec.specs.Subtrees.{subtree_of}
use Rattle.dir_tree.specs.tree.Numbered.{entries_of}
use Rattle.data_advice.specs.Noting.{place_of}
use Rattle.data_advice.specs.ItemNotes.{subtree_note}
use Rattle.data_advice.proofs.items.ItemLemmas.{written_more}
use Rattle.data_advice.proofs.items.put_subtrees.Goals as goal

pub loop-subtree-preserved : goal.loop-subtree-preserved
loop-subtree-preserved c =
    let specs = c.args.subtrees.now in
    let index = c.loop-subtree.subtree-index in
    let item = c.subtree-item.result in
    let note = subtree_note (entries_of c.args.tree.now) (place_of c.args.spot.now) in
    let rest : drop index specs ≡ item ∷ drop (index + 1) specs =
    rw add-one (drop-cons specs index item c.loop-subtree-test.true) ∙ ap (λ (first : Spec). first ∷ drop (index + 1) specs) (sym c.subtree-item.is) in
    written_more (string_bytes c.loop-subtree.out) (string_bytes c.put_subtree.new.out) (note (subtree_of item))
    (flat_map note (map subtree_of (drop (index + 1) specs))) c.in_ok-put_subtree.ensures.ok
    ∙ ap (λ (left : List Spec). string_bytes c.loop-subtree.out ++ flat_map note (map subtree_of left)) (sym rest)
    ∙ c.loop-subtree.invariant
