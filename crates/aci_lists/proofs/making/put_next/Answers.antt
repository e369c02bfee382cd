-- Those before stay, and the next is made.
use Rattle.std.proofs.Common.{◌≡◌, ℕ, List, [], ◌∷◌, ◌++◌, length, ap, sym, subst, ◌∙◌, arith}
use Rattle.dir_tree.specs.tree.Numbered.{entry_of}
use Rattle.aci_lists.specs.declared.kept.Kept.{Kept}
use Rattle.aci_lists.specs.kept.Lists.{IsKeptBelow}
use Rattle.aci_lists.proofs.making.MakingLemmas.{kept-next}
use Rattle.aci_lists.proofs.making.put_next.Goals as goal

pub returns-clause-below : goal.returns-clause-below
returns-clause-below c =
    let rows = c.args.tree.now in
    let before = c.args.kept.now.items in
    let next = c.in_ok-make_at.field-0 in
    let pushed : c.push.new.self.items ≡ before ++ next ∷ [] = c.in_ok-push.ensures.items in
    let counted : c.len.result ≡ length before = omega (arith, c.args.kept.now.ok.0) in
    subst (λ (xs : List Kept). IsKeptBelow xs rows) (sym pushed)
    (kept-next before next rows c.requires.below (λ entry known. c.in_ok-make_at.ensures.ok entry (ap (λ (n : ℕ). entry_of n rows) counted ∙ known)))
