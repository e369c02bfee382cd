-- No value of the type matches: the attributes stay good.
use Rattle.std.proofs.Common.{sym, ◌∙◌}
use Rattle.dir_tree.proofs.entry.GoodLemmas.{good-put_value}
use Rattle.dir_tree.proofs.entry.Entry.push.Goals as goal

pub invariant_of-self-2 : goal.invariant_of-self-2
invariant_of-self-2 c =
    let new = rw c.key.ensures.exact at (sym c.has_value.ensures.exact ∙ c.if-has_value.false) in
    rw c.in_ok-put_value.ensures.ok (good-put_value c.args.kind.0 c.args.value _ new c.self.invariant)
