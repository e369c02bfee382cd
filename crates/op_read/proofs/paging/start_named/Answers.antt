-- The first page begins with the empty name.
use Rattle.std.proofs.Common.{◌∙◌, sym, length}
use Rattle.std.proofs.lemmas.Bool.{eqb-true}
use Rattle.op_read.proofs.paging.StartLemmas.{start-first}
use Rattle.op_read.proofs.paging.start_named.Goals as goal

pub returns-then-is_empty : goal.returns-then-is_empty
returns-then-is_empty c = record {
  exact = start-first c.args.cookie.now c.args.name c.requires (eqb-true (length c.args.cookie.now) 0 (sym c.is_empty.ensures ∙ c.if-is_empty.true));
}
