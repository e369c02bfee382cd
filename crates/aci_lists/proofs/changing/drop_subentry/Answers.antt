-- `retain` keeps the other subentries.
use Rattle.std.proofs.Common.{not, ◌==◌, rules}
use Rattle.std.proofs.lemmas.Fn.{filter_same}
use Rattle.aci_lists.proofs.changing.drop_subentry.Goals as goal

pub returns : goal.returns
returns c =
    filter_same _ (λ other. not (other.number.0 == c.args.number.0)) _ (λ value passes after call. search rules) _ _ c.retain.ensures.filtered
