-- A token that is taken from the end grows what has come.
use Rattle.std.proofs.Common.{◌≡◌, ◌∙◌, sym, ap}
use Rattle.std.specs.Prelude.{Some, option_map, option_and_then}
use Rattle.gser_tree.specs.Growing.{grow, grow_all, value_in, value_of}
use Rattle.gser_tree.specs.Tree.{stack_of}
use Rattle.gser_tree.proofs.growing.GrowingLemmas.{grow_all-push}
use Rattle.gser_tree.proofs.growing.value_of.Goals as goal

pub tokens-preserved : goal.tokens-preserved
tokens-preserved c =
    let stack = stack_of c.tokens.growing in
    let left = c.pop.new.self.items in
    let step : Some (stack_of c.in-Some-2.next) ≡ grow c.in-Some.token stack = sym (ap (option_map stack_of) c.in-Some-2.is) ∙ c.in_ok-next.ensures.ok in
    ap (option_and_then (grow_all left)) step ∙ sym (grow_all-push left c.in-Some.token stack)
    ∙ sym (ap (λ tokens. grow_all tokens stack) c.in-Some.ensures.items) ∙ c.tokens.invariant

pub returns-in-None : goal.returns-in-None
unfolding value_of
returns-in-None c =
    let stack = stack_of c.tokens.growing in
    let left = c.pop.new.self.items in
    record {
      ok = ap (option_and_then value_in)
          (ap (option_and_then (grow_all left)) (sym (ap (option_map stack_of) c.in-None.is) ∙ c.in_ok-next.ensures.ok)
          ∙ sym (grow_all-push left c.in-Some.token stack)
          ∙ sym (ap (λ tokens. grow_all tokens stack) c.in-Some.ensures.items) ∙ c.tokens.invariant);
    }
