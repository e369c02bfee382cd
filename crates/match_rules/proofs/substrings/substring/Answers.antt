-- There is one text between the first part and the last, so that the middle parts are sought in it alone.
use Rattle.std.proofs.Common.{map, sym, ◌∙◌, subst}
use Rattle.match_rules.specs.substrings.Substrings.{InOrder}
use Rattle.match_rules.proofs.substrings.SubstringsLemmas.{between-one}
use Rattle.match_rules.proofs.substrings.substring.Goals as goal

pub returns-in-Some : goal.returns-in-Some
returns-in-Some c =
    let between = c.in-Some.between.now in (
      λ is. (between, c.in-Some.ensures, c.stand_in_order.ensures.0 is),
      λ sub. c.stand_in_order.ensures.1
          (subst (InOrder (map (λ part. part.items) c.args.middle.now)) (between-one c.args.first.now c.args.last.now sub.0 between (sym sub.1 ∙ c.in-Some.ensures)) sub.2),
    )
