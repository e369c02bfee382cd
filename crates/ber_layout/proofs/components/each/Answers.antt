-- One element more is read, or it is none, or another tag comes.
use Rattle.std.proofs.Common.{◌≡◌, ◌++◌, ◌∷◌, [], List, map, Some, true, false, sym, ap, ◌∙◌}
use Rattle.std.proofs.lemmas.Result.{err_from_is_err_and}
use Rattle.std.proofs.lemmas.List.{map-append, append-nil}
use Rattle.ber_layout.specs.components.Components.{begins, behind, required_of, each_of}
use Rattle.ber_layout.specs.Layouts.{Value, reads_into}
use Rattle.ber_layout.proofs.components.EachLemmas.{shorter_by, each_step, each_none, each_done, behind_more}
use Rattle.ber_layout.proofs.components.FaultLemmas.{fails_so}
use Rattle.ber_layout.proofs.components.each.Goals as goal

-- an element can't be read, so all can't
pub returns-in_err-found : goal.returns-in_err-found
returns-in_err-found g c =
    let p = err_from_is_err_and c.from_residual.result c.from_residual.ensures.1 in
    let reader = reads_into g.T.Laid.layout Some in
    let there : begins c.args.tag c.loop-alloc.rest.now ≡ true = sym c.begins.ensures ∙ c.loop-alloc-test.true in
    rw (p.1, p.2) (fails_so c.in_err-found.field-0.0 (required_of c.args.tag reader c.loop-alloc.rest.now) (each_of c.args.tag reader c.args.bytes.now)
    (λ none. c.loop-alloc.invariant ∙ ap (behind (map g.T.Laid.parts c.loop-alloc.values.items)) (each_none c.args.tag reader c.loop-alloc.rest.now there none)) c.in_err-found.ensures)

pub loop-alloc-smaller : goal.loop-alloc-smaller
loop-alloc-smaller g c =
    shorter_by c.args.tag (reads_into g.T.Laid.layout Some) c.loop-alloc.rest.now
    (record { value = g.T.Laid.parts c.in_ok-found.found.value; rest = c.in_ok-found.found.rest.now }) c.in_ok-found.ensures

-- one value more stands before those that are left
pub loop-alloc-preserved : goal.loop-alloc-preserved
loop-alloc-preserved g c =
    let reader = reads_into g.T.Laid.layout Some in
    let parts = g.T.Laid.parts in
    let there : begins c.args.tag c.loop-alloc.rest.now ≡ true = sym c.begins.ensures ∙ c.loop-alloc-test.true in
    let rest = c.in_ok-found.found.rest.now in
    let values : map parts c.put_last.new.values.items ≡ map parts c.loop-alloc.values.items ++ parts c.in_ok-found.found.value ∷ [] =
    ap (map parts) c.in_ok-put_last.ensures ∙ map-append parts c.loop-alloc.values.items (c.in_ok-found.found.value ∷ []) in
    c.loop-alloc.invariant
    ∙ ap (behind (map parts c.loop-alloc.values.items)) (each_step c.args.tag reader c.loop-alloc.rest.now (record { value = parts c.in_ok-found.found.value; rest = rest }) there c.in_ok-found.ensures)
    ∙ behind_more (map parts c.loop-alloc.values.items) (parts c.in_ok-found.found.value) (each_of c.args.tag reader rest)
    ∙ ap (λ (all : List (Value g.T.Laid.layout)). behind all (each_of c.args.tag reader rest)) (sym values)

-- all are read
pub returns : goal.returns
returns g c =
    let reader = reads_into g.T.Laid.layout Some in
    let not_there : begins c.args.tag c.loop-alloc.rest.now ≡ false = sym c.begins.ensures ∙ c.loop-alloc-test.false in
    c.loop-alloc.invariant
    ∙ ap (behind (map g.T.Laid.parts c.loop-alloc.values.items)) (each_done c.args.tag reader c.loop-alloc.rest.now not_there)
    ∙ ap (λ (all : List (Value g.T.Laid.layout)). Some (record { value = all; rest = c.loop-alloc.rest.now })) (append-nil (map g.T.Laid.parts c.loop-alloc.values.items))
