use Rattle.std.proofs.Common.{sym, ◌∙◌, ap}
use Rattle.dir_tree.specs.dn_names.name.Names.{RdnSequence}
use Rattle.dir_tree.specs.tree.Trees.{superior_name}
use Rattle.dir_tree.specs.tree.Numbered.{entries_of, find_name}
use Rattle.dir_tree.specs.Refusals.{insert_refusal}
use Rattle.ldif_load.proofs.load.PlaceLemmas.{MayJoin-free, placed-good, placed-fault}
use Rattle.ldif_load.proofs.load.placed.Goals as goal

-- the vacancy has the superior's number
pub ruled-requires : goal.ruled-requires
ruled-requires c =
    c.superior.ensures.exact ∙ c.in-Ok.ensures.ok.under
    ∙ ap (λ (name : RdnSequence). find_name (superior_name name) c.args.tree.now) c.name.ensures.exact

-- no rule is broken
pub returns-in-Ok-ruled-clause-ok : goal.returns-in-Ok-ruled-clause-ok
returns-in-Ok-ruled-clause-ok c =
    let free = ap (λ (name : RdnSequence). insert_refusal name (entries_of c.args.tree.now)) (sym c.name.ensures.exact) ∙ c.in-Ok.ensures.exact in
    placed-good (entries_of c.args.tree.now) c.args.line c.args.entry.now
    (MayJoin-free (entries_of c.args.tree.now) c.args.entry.now free) c.in-Ok-ruled.ensures.ok

-- one is broken
pub returns-in-Err-ruled-clause-bad : goal.returns-in-Err-ruled-clause-bad
returns-in-Err-ruled-clause-bad c =
    let free = ap (λ (name : RdnSequence). insert_refusal name (entries_of c.args.tree.now)) (sym c.name.ensures.exact) ∙ c.in-Ok.ensures.exact in
    placed-fault (entries_of c.args.tree.now) c.args.line c.args.entry.now c.in-Err-ruled.fault
    (MayJoin-free (entries_of c.args.tree.now) c.args.entry.now free) c.in-Err-ruled.ensures.bad
