-- `retain` keeps the other numbers.
use Rattle.std.proofs.Common.{not, ◌==◌, map, rules, ap, ◌∙◌}
use Rattle.std.proofs.lemmas.Fn.{filter_same}
use Rattle.aci_lists.proofs.changing.DropLemmas.{numbers-filter}
use Rattle.aci_lists.proofs.changing.drop_number.Goals as goal

pub returns : goal.returns
returns c =
    ap (λ numbers. map (λ no. no.0) numbers) (filter_same _ (λ other. not (other.0 == c.args.number.0)) _ (λ value passes after call. search rules) _ _ c.retain.ensures.filtered)
    ∙ numbers-filter c.args.number.0 c.args.numbers.now.items
