-- An RDN of one pair is that pair among none.
use Rattle.std.proofs.Common.{[], sym, ap}
use Rattle.dn_names.specs.Reading.{pair_of, rdn_of}
use Rattle.dn_names.specs.Resolving.{rdn_from}
use Rattle.dn_names.proofs.resolve.ResolveLemmas.{rdn_of-last, answers_one, length_one}
use Rattle.dn_names.proofs.parsing.read_rdn.Goals as goal

pub returns-in-None : goal.returns-in-None
returns-in-None c =
    let text = c.args.text.now in
    let first = c.args.first in
    let part = c.cut.result.0.now in
    let last = rdn_of-last text part (rw c.in-None.is at c.cut.ensures.exact) in
    record {
      exact = answers_one first (pair_of part) (rdn_from first [] (rdn_of text)) c.read_one.result c.read_one.ensures.ok c.read_one.ensures.part (sym (ap (λ ws. rdn_from first [] ws) last));
      len = length_one (pair_of part) (rdn_of text) c.read_one.result c.read_one.ensures.len last;
    }
