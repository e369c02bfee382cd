-- What is at a place, or past the end.
use Rattle.std.proofs.Common.{[], ap, ◌∙◌, unwrap_or}
use Rattle.std.proofs.lemmas.Option.{unwrap_or-slice_get}
use Rattle.subtree_spec.proofs.membership.rdn_at.Goals as goal

pub returns-in-Some : goal.returns-in-Some
returns-in-Some c = record { exact = ap (λ o. unwrap_or o []) c.in-Some.ensures.exact ∙ unwrap_or-slice_get c.args.name.now c.args.index [] }

pub returns-in-None : goal.returns-in-None
returns-in-None c = record { exact = ap (λ o. unwrap_or o []) c.in-None.ensures.exact ∙ unwrap_or-slice_get c.args.name.now c.args.index [] }
