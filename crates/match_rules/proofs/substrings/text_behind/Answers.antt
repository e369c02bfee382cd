-- The first place leaves the longest rest, and where there is none the part is not there.
use Rattle.std.proofs.Common.{length, ◌+◌, subst, sym}
use Rattle.match_rules.specs.substrings.Substrings.{InOrder}
use Rattle.match_rules.proofs.substrings.SubstringsLemmas.{InOrder-at, InOrder-first, InOrder-nowhere, rest-drop}
use Rattle.match_rules.proofs.substrings.text_behind.Goals as goal

pub returns-in_err-place : goal.returns-in_err-place
returns-in_err-place c =
    rw c.from_residual.ensures (λ parts. InOrder-nowhere c.args.part.now parts c.args.text.now c.in_err-place.ensures)

pub returns : goal.returns
returns c =
    λ parts.
    let part = c.args.part.now in
    let text = c.args.text.now in
    let place = c.in_ok-place.place in
    let rest = rest-drop text (place + length part) in
    let found = c.in_ok-place.ensures in (
      λ order. InOrder-at part parts text place found.1 (subst (InOrder parts) rest order),
      λ order. subst (InOrder parts) (sym rest) (InOrder-first part parts text place found.0 order),
    )
