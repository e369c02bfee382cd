-- A step leaves the tokens of what is left.
use Rattle.std.proofs.Common.{◌≡◌, ◌∷◌, ◌++◌, ◌∙◌, ap, sym, drop, get_or, add-one}
use Rattle.std.specs.Prelude.{option_map, ◌+◌}
use Rattle.std.proofs.Math.Seq.{drop-cons}
use Rattle.gser_tree.specs.Lexing.{lex_from, left}
use Rattle.gser_tree.proofs.lexing.LexingLemmas.{goes_on}
use Rattle.gser_tree.proofs.lexing.lex.Goals as goal

pub loop-place-preserved : goal.loop-place-preserved
loop-place-preserved c =
    let text = c.args.text.now in
    let place = c.loop-place.place in
    let rest : drop place text ≡ get_or text place 0 ∷ drop (place + 1) text = rw add-one (drop-cons text place 0 c.loop-place-test.true) in
    goes_on c.loop-place.tokens.items c.step.new.tokens.items c.loop-place.mode c.in-Some.next place (get_or text place 0) (drop (place + 1) text)
    (c.in_ok-next.ensures.ok ∙ ap (left c.step.new.tokens.items) c.in-Some.is)
    ∙ ap (λ rest. option_map (λ more. c.loop-place.tokens.items ++ more) (lex_from c.loop-place.mode place rest)) (sym rest)
    ∙ c.loop-place.invariant
