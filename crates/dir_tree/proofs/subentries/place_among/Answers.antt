-- Those passed over come before the name, and the one at which it ends does not.
use Rattle.std.proofs.Common.{◌∙◌, sym, arith}
use Rattle.dir_tree.proofs.subentries.AccessLemmas.{among-more, among-none}
use Rattle.dir_tree.proofs.subentries.place_among.Goals as goal

pub returns-then-not-comes_before-clause-exact : goal.returns-then-not-comes_before-clause-exact
returns-then-not-comes_before-clause-exact c =
    let stays = sym c.comes_before.ensures.exact ∙ c.if-not-comes_before.true in
    let at = among-more c.args.name.now c.args.slots.now c.args.numbers.now c.loop-no.no-index (record { 0 = 0 }) (omega arith) in
    let none = rw stays at at in
    omega (arith, c.loop-no.invariant.passed, none)

pub loop-no-preserved : goal.loop-no-preserved
loop-no-preserved c =
    let before = sym c.comes_before.ensures.exact ∙ c.if-not-comes_before.false in
    let at = among-more c.args.name.now c.args.slots.now c.args.numbers.now c.loop-no.no-index (record { 0 = 0 }) (omega arith) in
    let more = rw before at at in
    record { passed = omega (arith, c.loop-no.invariant.passed, more); count = omega (arith, c.loop-no.invariant.count) }

pub returns-clause-exact : goal.returns-clause-exact
returns-clause-exact c =
    let none = among-none c.args.name.now c.args.slots.now c.args.numbers.now c.loop-no.no-index (omega (arith, c.loop-no-test.false)) in
    omega (arith, c.loop-no.invariant.passed, none)
