-- One element more is read, or there is none, or it is controls.
use Rattle.std.proofs.Common.{◌≡◌, ◌<◌, [], sym, ap, ◌∙◌, length, refl}
use Rattle.std.proofs.lemmas.Bool.{ne_eqb, eq-eqb}
use Rattle.ber_layout.specs.element.Pieces.{are_pieces}
use Rattle.ber_layout.specs.element.Pieces.{other_than}
use Rattle.ber_layout.specs.element.Reading.{piece_view}
use Rattle.ber_layout.proofs.element.PieceLemmas.{some_left, none_left, piece_sound, pieces_nil, pieces_step, pieces_none}
use Rattle.ber_layout.proofs.element.is_further_but.Goals as goal

pub returns-in-None : goal.returns-in-None
returns-in-None c =
    let some : 0 < length c.loop-rest.rest.now = some_left c.loop-rest.rest.now (sym c.is_empty.ensures ∙ c.loop-rest-test.true) in
    sym (pieces_none (other_than c.args.tag) c.loop-rest.rest.now some c.in-None.ensures) ∙ c.loop-rest.invariant

pub loop-rest-smaller : goal.loop-rest-smaller
loop-rest-smaller c = (piece_sound c.loop-rest.rest.now (piece_view c.in-Some.found) c.in-Some.ensures).shorter

pub loop-rest-preserved : goal.loop-rest-preserved
loop-rest-preserved c =
    sym (pieces_step (other_than c.args.tag) c.loop-rest.rest.now (piece_view c.in-Some.found) c.in-Some.ensures
    ∙ rw (ne_eqb c.in-Some.found.tag c.args.tag c.if-found-tag.false) refl)
    ∙ c.loop-rest.invariant

pub returns-then-found-tag : goal.returns-then-found-tag
returns-then-found-tag c =
    sym (pieces_step (other_than c.args.tag) c.loop-rest.rest.now (piece_view c.in-Some.found) c.in-Some.ensures
    ∙ rw (eq-eqb c.in-Some.found.tag c.args.tag c.if-found-tag.true) refl)
    ∙ c.loop-rest.invariant

pub returns : goal.returns
returns c =
    let none : c.loop-rest.rest.now ≡ [] = none_left c.loop-rest.rest.now (sym c.is_empty.ensures ∙ c.loop-rest-test.false) in
    sym (ap (are_pieces (other_than c.args.tag)) none ∙ pieces_nil (other_than c.args.tag)) ∙ c.loop-rest.invariant
