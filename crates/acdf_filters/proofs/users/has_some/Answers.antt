-- By the length.
use Rattle.std.proofs.Common.{not, sym, ap, ◌∙◌}
use Rattle.acdf_filters.proofs.users.UserLemmas.{is_filled-length}
use Rattle.acdf_filters.proofs.users.has_some.Goals as goal

pub returns : goal.returns
returns c = record { exact = ap not c.is_empty.ensures ∙ sym (is_filled-length c.args.names.now) }
