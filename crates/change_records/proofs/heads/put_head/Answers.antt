use Rattle.std.proofs.Common.{◌++◌, ◌∙◌, ap}
use Rattle.std.specs.Prelude.{codes}
use Rattle.std.proofs.lemmas.List.{append_assoc}
use Rattle.hex.specs.Hex.{encode_lower}
use Rattle.change_records.specs.Files.{head_text}
use Rattle.change_records.proofs.JoinLemmas.{on_ok_if}
use Rattle.change_records.proofs.heads.put_head.Goals as goal

-- the line of the version with the beginning of the comment, the digits, and the empty line
pub returns-clause-ok : goal.returns-clause-ok
unfolding head_text
returns-clause-ok c =
    let front = codes "version: 1\n# of sha256 " in
    let digits = encode_lower c.args.digest.now in
    let one = c.in_ok-extend_from_slice.ensures.items ∙ ap (λ text. text ++ front) c.new-text.ensures.items in
    let two =
    c.in_ok-extend_from_slice-2.ensures.items ∙ ap (λ text. text ++ c.as_bytes.result.now) one
    ∙ ap (λ found. front ++ found) (c.as_bytes.ensures.value ∙ c.in_ok-digits.ensures) in
    let three = c.in_ok-extend_from_slice-3.ensures.items ∙ ap (λ text. text ++ codes "\n\n") two ∙ append_assoc front digits (codes "\n\n") in
    on_ok_if c.extend_from_slice-4.result _ _ _ _ c.extend_from_slice-4.ensures.items (ap (λ text. c.args.out.now.items ++ text) (c.deref.ensures.value ∙ three))
