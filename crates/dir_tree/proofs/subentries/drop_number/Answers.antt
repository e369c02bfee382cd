-- `retain` keeps the other numbers.
use Rattle.std.proofs.Common.{not, ◌==◌, rules, ap, ◌∙◌}
use Rattle.std.proofs.lemmas.Fn.{filter_same}
use Rattle.dir_tree.specs.slots.Slots.{numbers_in}
use Rattle.dir_tree.proofs.subentries.AccessLemmas.{unlisted-numbers}
use Rattle.dir_tree.proofs.subentries.drop_number.Goals as goal

pub returns-clause-exact : goal.returns-clause-exact
returns-clause-exact c =
    ap numbers_in (filter_same _ (λ other. not (other.0 == c.args.no.0)) _ (λ value passes after call. search rules) _ _ c.retain.ensures.filtered)
    ∙ unlisted-numbers c.args.no.0 c.args.numbers.now.items
