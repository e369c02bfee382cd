-- The values gained one, or stayed.
use Rattle.std.proofs.Common.{sym, ap, ◌∙◌, is_some}
use Rattle.std.proofs.lemmas.Result.{err_from_is_err_and}
use Rattle.dir_tree.specs.attributes.Rows.{attributes_of}
use Rattle.dir_tree.proofs.attributes.ChangeLemmas.{put_value-set_value, attributes_of-set_value, has_kind-rows}
use Rattle.dir_tree.proofs.attributes.put_last.Goals as goal

-- there was no room: the map has the same values again
pub returns-in_err-push-clause-err : goal.returns-in_err-push-clause-err
returns-in_err-push-clause-err c =
    let p = err_from_is_err_and c.from_residual.result c.from_residual.ensures.1 in
    rw p.1
    (ap attributes_of (c.get_mut.follows.holds c.push.new.self).0
    ∙ attributes_of-set_value c.args.kind c.in-Some.values.now c.push.new.self c.args.attributes.now.entries
    c.in-Some.ensures.value c.in_err-push.ensures.err)

-- the values have the new one last
pub returns-in_ok-push-clause-ok : goal.returns-in_ok-push-clause-ok
returns-in_ok-push-clause-ok c =
    ap attributes_of (c.get_mut.follows.holds c.push.new.self).0
    ∙ put_value-set_value c.args.kind c.in-Some.values.now c.push.new.self c.args.value c.args.attributes.now.entries
    c.in-Some.ensures.value c.in_ok-push.ensures.ok

-- the type is there
pub returns-in_default-clause-ok : goal.returns-in_default-clause-ok
returns-in_default-clause-ok c =
    let there = sym c.requires ∙ has_kind-rows c.args.kind c.args.attributes.now.entries
    ∙ sym (ap is_some c.in_default.ensures.value) in
    absurd cc
