use Rattle.std.proofs.Common.{◌≡◌, ◌∙◌, ap, sym, Ok}
use Rattle.dir_tree.specs.tree.Numbered.{entries_of}
use Rattle.data_file.specs.Steps.{IsStep}
use Rattle.data_file.proofs.loading.LoadLemmas.{loads_after-step, loads_after-end}
use Rattle.data_file.proofs.loading.load_all.Goals as goal

-- a record more was loaded
pub loop-next-preserved : goal.loop-next-preserved
loop-next-preserved c =
    let step : IsStep c.args.text.now c.loop-next.at c.loop-next.tree c.in-Some.next c.load_next.new.tree = rw c.in-Some.is at c.in_ok-next.ensures.more in
    record {
      whole = c.loop-next.invariant.whole ∙ loads_after-step _ _ _ _ _ step;
      place = step.next.place;
    }

-- no record is left
pub returns-clause-ok : goal.returns-clause-ok
returns-clause-ok c =
    let none = rw c.in_default.is at c.in_ok-next.ensures.end in
    let kept : c.load_next.new.tree ≡ c.loop-next.tree = rw c.in_default.is at c.in_ok-next.ensures.kept in
    c.loop-next.invariant.whole ∙ loads_after-end _ _ _ none ∙ ap (λ rows. Ok (entries_of rows)) (sym kept)
