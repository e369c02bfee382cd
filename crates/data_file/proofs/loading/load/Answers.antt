use Rattle.std.proofs.Common.{◌≡◌, ◌≢◌, length, arith}
use Rattle.std.proofs.lemmas.Result.{err_from_is_err_and}
use Rattle.dir_tree.specs.tree.Numbered.{entries_of}
use Rattle.data_file.proofs.loading.LoadLemmas.{fault-loads, fault-same, loads-some, loads-none}
use Rattle.data_file.proofs.loading.load.Goals as goal

-- the first bad line
pub returns-in_err-load_all-clause-bad : goal.returns-in_err-load_all-clause-bad
returns-in_err-load_all-clause-bad c =
    let fault = err_from_is_err_and c.from_residual.result c.from_residual.ensures.1 in
    fault-same c.from_residual.result fault.0 c.in_err-load_all.field-0.0 _ fault.1 fault.2
    (fault-loads c.in_err-load_all.field-0.0 c.args.text.now c.in_err-load_all.ensures.bad)

-- no record
pub returns-then-len-eq0-clause-bad : goal.returns-then-len-eq0-clause-bad
returns-then-len-eq0-clause-bad c =
    let none : length c.load_all.new.tree ≡ 0 = omega arith in
    loads-none c.args.text.now c.load_all.new.tree none c.in_ok-load_all.ensures.ok

-- all records
pub returns-clause-ok : goal.returns-clause-ok
returns-clause-ok c =
    let some : length c.load_all.new.tree ≢ 0 = omega arith in
    loads-some c.args.text.now c.load_all.new.tree some c.in_ok-load_all.ensures.ok

-- a file of octets loads a good tree
pub returns-clause-good : goal.returns-clause-good
returns-clause-good c =
    let some : length c.load_all.new.tree ≢ 0 = omega arith in
    c.what_is_loaded_is_good.ensures.exact c.args.text.now (entries_of c.load_all.new.tree)
    (λ i. let fits = c.type_inv.text i in omega arith)
    (loads-some c.args.text.now c.load_all.new.tree some c.in_ok-load_all.ensures.ok)

-- and the file that is written of it gives it again
pub returns-clause-again : goal.returns-clause-again
returns-clause-again c =
    let rows = c.load_all.new.tree in
    let some : length rows ≢ 0 = omega arith in
    let whole = loads-some c.args.text.now rows some c.in_ok-load_all.ensures.ok in
    c.what_is_written_loads_again.ensures.exact (entries_of rows)
    (c.what_is_loaded_is_good.ensures.exact c.args.text.now (entries_of rows) (λ i. let fits = c.type_inv.text i in omega arith) whole)
    (c.what_is_loaded_is_loadable.ensures.exact c.args.text.now (entries_of rows) (λ i. let fits = c.type_inv.text i in omega arith) whole)
