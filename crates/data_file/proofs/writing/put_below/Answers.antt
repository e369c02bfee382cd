use Rattle.std.proofs.Common.{◌∙◌, refl}
use Rattle.wire_io.proofs.Theorems.{PutCause-nothing, PutCause-then}
use Rattle.data_file.proofs.writing.PutLemmas.{PutsAll-empty, walked-push, texts-more, texts-refused}
use Rattle.data_file.proofs.writing.put_below.Goals as goal

-- nothing was put yet
pub loop-no-init : goal.loop-no-init
loop-no-init g c = record {
  all = c.into_iter-no-iterator.ensures.into_iter_gives ∙ c.below-no-items.ensures.exact;
  put = PutsAll-empty _ _ refl;
  faults = PutCause-nothing _ _;
}

-- a record more was put
pub loop-no-preserved : goal.loop-no-preserved
loop-no-preserved g c = record {
  all = walked-push c.loop-no.yielded c.in-Some.no _ _ _ c.in-Some.ensures.steps c.loop-no.invariant.all;
  put = texts-more _ _ _ c.args.tree.now c.loop-no.yielded c.in-Some.no c.loop-no.invariant.put c.in-Ok.ensures.tells;
  faults = PutCause-then _ _ _ _ _ c.loop-no.invariant.faults c.in-Ok.ensures.cause;
}

-- a record was refused
pub returns-in-Err-clause-tells : goal.returns-in-Err-clause-tells
returns-in-Err-clause-tells g c =
    texts-refused _ _ _ c.args.tree.now c.loop-no.yielded c.in-Some.no _ _ _ _ c.in-Some.ensures.steps c.loop-no.invariant.all c.loop-no.invariant.put c.in-Err.ensures.tells

pub returns-in-Err-clause-cause : goal.returns-in-Err-clause-cause
returns-in-Err-clause-cause g c = PutCause-then _ _ _ _ _ c.loop-no.invariant.faults c.in-Err.ensures.cause
