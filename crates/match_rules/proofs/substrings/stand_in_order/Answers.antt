-- Where a part is not there, neither the parts from it on nor all of them stand in order.
use Rattle.std.proofs.Common.{◌≡◌, ◌+◌, ◌∷◌, map, drop, ap, arith, sym, ◌∙◌, subst}
use Rattle.match_rules.specs.substrings.Substrings.{InOrder}
use Rattle.match_rules.proofs.substrings.SubstringsLemmas.{map-drop}
use Rattle.match_rules.proofs.substrings.stand_in_order.Goals as goal

pub returns-in_default : goal.returns-in_default
returns-in_default c =
    let others = map (λ part. part.items) (drop (c.loop-part.part-index + 1) c.args.parts.now) in
    let from_here : map (λ part. part.items) (drop c.loop-part.part-index c.args.parts.now) ≡ c.deref.result.now ∷ others =
    map-drop (λ part. part.items) c.args.parts.now c.loop-part.part-index c.part-item.result (omega arith) c.part-item.is
    ∙ ap (λ octets. octets ∷ others) (sym c.deref.ensures.value) in
    (λ is. absurd (cc is), λ order. absurd (c.in_default.ensures others (subst (λ parts. InOrder parts c.loop-part.rest.now) from_here (c.loop-part.invariant.1 order))))
