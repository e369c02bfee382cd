-- The certificate that is appended is accepted.
use Rattle.std.proofs.Common.{◌∙◌}
use Rattle.acdf_filters.specs.Asking.{protected_of}
use Rattle.certify.proofs.proving.AcceptedLemmas.{append-accepted}
use Rattle.certify.proofs.proving.prove.Goals as goal

pub returns-clause-accepted : goal.returns-clause-accepted
returns-clause-accepted g c = λ entry known good said.
    append-accepted c.extend_from_slice.result c.tree-tree.result.now (g.D.Dir.rows c.args.dir.now) c.args.number.0
    c.args.out.now.items c.deref.result.now c.extend_from_slice.new.self.items
    c.args.who.now c.in-Some.entry.now entry (protected_of c.args.item) c.args.permission
    c.tree-tree.ensures.exact c.entries_form_a_tree.ensures.exact c.in-Some.ensures.exact
    (c.deref.ensures.value ∙ c.in_ok-text.ensures.ok) c.extend_from_slice.ensures.items known good said
