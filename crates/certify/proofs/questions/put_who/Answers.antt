-- There is no name.
use Rattle.std.proofs.Common.{◌≡◌, ◌++◌, ◌∷◌, [], Option, map, sym, subst}
use Rattle.std.specs.Prelude.{OnOk}
use Rattle.dir_tree.specs.dn_names.name.Names.{RdnSequence}
use Rattle.certify.specs.Lines.{line_of}
use Rattle.certify.specs.Certificate.{who_line}
use Rattle.certify.proofs.questions.put_who.Goals as goal

pub returns-in-None : goal.returns-in-None
returns-in-None c = record {
  ok = subst (λ (name : Option RdnSequence). OnOk c.put_text.result (map line_of c.put_text.new.lines.items ≡ map line_of c.args.lines.now.items ++ who_line name ∷ []))
      (sym c.in-None.is) c.put_text.ensures.ok;
}
