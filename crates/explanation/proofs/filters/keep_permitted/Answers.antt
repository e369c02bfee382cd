-- `retain` keeps those that pass.
use Rattle.std.proofs.Common.{rules}
use Rattle.std.proofs.lemmas.Fn.{filter_same}
use Rattle.explanation.proofs.filters.keep_permitted.Goals as goal

pub returns : goal.returns
returns c = record { exact = filter_same _ _ _ (λ one passes after call. search rules) _ _ c.retain.ensures.filtered }
