use Rattle.std.proofs.Common.{◌≡◌, ◌++◌, Ok}
use Rattle.wire_io.specs.Putting.{PutsAll, PutCause}
use Rattle.dir_tree.specs.Scope.{scoped}
use Rattle.dir_tree.specs.declared.scope.Scope.TheVariants.{Sub}
use Rattle.data_file.proofs.writing.PutLemmas.{numbers_of, texts_of}
use Rattle.data_file.proofs.writing.put_below.Given as goal

-- the records of the first entries were put
abbrev pub invariant-loop-no : goal.invariant-loop-no
invariant-loop-no g l = record {
  all : numbers_of l.yielded ++ l.no-iterator ≡ scoped Sub l.fn.base.0 l.tree;
  put : PutsAll {T = Unit {0}} (g.K.Sink.put l.initial.out) (texts_of l.tree (numbers_of l.yielded)) (Ok tt) (g.K.Sink.put l.out);
  faults : PutCause {T = Unit {0}} (g.K.Sink.faults l.initial.out) (g.K.Sink.faults l.out) (Ok tt);
}
