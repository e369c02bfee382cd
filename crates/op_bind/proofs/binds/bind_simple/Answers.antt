-- An empty text is the empty name.
use Rattle.std.proofs.Common.{◌≡◌, [], length, ap, ◌∙◌, arith}
use Rattle.std.specs.Prelude.{Ok}
use Rattle.std.proofs.lemmas.Bool.Decides.{nat_tests}
use Rattle.std.proofs.lemmas.List.{nil_from_length}
use Rattle.dir_tree.specs.dn_names.parsing.NameText.{read_name}
use Rattle.op_bind.proofs.binds.NameLemmas.{read-nothing}
use Rattle.op_bind.proofs.binds.bind_simple.Goals as goal

pub returns-then-is_empty-clause-ok : goal.returns-then-is_empty-clause-ok
returns-then-is_empty-clause-ok c =
    let none : length c.args.name.now ≡ 0 = grind (arith, nat_tests, c.if-is_empty.true, c.is_empty.ensures) in
    let empty : c.args.name.now ≡ [] = nil_from_length c.args.name.now none in
    let read : read_name c.args.name.now ≡ Ok [] = ap read_name empty ∙ read-nothing in
    rw read c.bind_nobody.ensures.exact
