-- The RDNs of the text from the last to the first.
use Rattle.std.proofs.Common.{reverse, sym, ◌∙◌}
use Rattle.dn_names.specs.name.Names.{rdns_of}
use Rattle.dn_names.proofs.resolve.ResolveLemmas.{from_root-written_of}
use Rattle.dn_names.proofs.parsing.GoodNameLemmas.{IsGoodName-from_written_of}
use Rattle.dn_names.proofs.parsing.read_all.Goals as goal

pub from_last-requires : goal.from_last-requires
from_last-requires c =
    let rdns = rdns_of c.in-Ok.rdns.items in
    IsGoodName-from_written_of c.args.text.now (reverse rdns) (from_root-written_of c.args.text.now rdns (sym c.is_blank.ensures.exact ∙ c.if-is_blank.false) c.in-Ok.ensures.exact) c.requires
