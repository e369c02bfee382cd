-- One element more is read, or there is none.
use Rattle.std.proofs.Common.{◌≡◌, ◌<◌, [], sym, ap, ◌∙◌, length}
use Rattle.ber_layout.specs.element.Pieces.{are_pieces}
use Rattle.ber_layout.specs.element.Pieces.{any_tag}
use Rattle.ber_layout.specs.element.Reading.{piece_view}
use Rattle.ber_layout.proofs.element.PieceLemmas.{some_left, none_left, piece_sound, pieces_nil, pieces_step, pieces_none}
use Rattle.ber_layout.proofs.element.is_further.Goals as goal

pub returns-in-None : goal.returns-in-None
returns-in-None c =
    let some : 0 < length c.loop-rest.rest.now = some_left c.loop-rest.rest.now (sym c.is_empty.ensures ∙ c.loop-rest-test.true) in
    sym (pieces_none any_tag c.loop-rest.rest.now some c.in-None.ensures) ∙ c.loop-rest.invariant

pub loop-rest-smaller : goal.loop-rest-smaller
loop-rest-smaller c = (piece_sound c.loop-rest.rest.now (piece_view c.in-Some.found) c.in-Some.ensures).shorter

pub loop-rest-preserved : goal.loop-rest-preserved
loop-rest-preserved c = sym (pieces_step any_tag c.loop-rest.rest.now (piece_view c.in-Some.found) c.in-Some.ensures) ∙ c.loop-rest.invariant

pub returns : goal.returns
returns c =
    let none : c.loop-rest.rest.now ≡ [] = none_left c.loop-rest.rest.now (sym c.is_empty.ensures ∙ c.loop-rest-test.false) in
    sym (ap (are_pieces any_tag) none ∙ pieces_nil any_tag) ∙ c.loop-rest.invariant
