-- The element of one value more was appended.
use Rattle.std.proofs.Common.{◌∙◌, ◌++◌, List, ℕ, sym, ap, map, take, append_assoc}
use Rattle.ber_layout.specs.Layouts.{writes}
use Rattle.ber_layout.specs.Spellings.{element_octets, each_octets}
use Rattle.ber_layout.proofs.write.WritingLemmas.{each_octets_at}
use Rattle.ber_layout.proofs.write.put_each.Goals as goal

pub loop-value-preserved : goal.loop-value-preserved
loop-value-preserved g c =
    let content = writes g.T.Laid.layout in
    let old = c.args.out.now.items in
    let done = each_octets c.args.tag content (map g.T.Laid.parts (take c.loop-value.value-index c.args.values.now)) in
    let one = element_octets c.args.tag (content (g.T.Laid.parts c.value-item.result)) in
    c.in_ok-put_inside.ensures.ok
    ∙ ap (λ (s : List ℕ). s ++ one) c.loop-value.invariant
    ∙ append_assoc old done one
    ∙ ap (λ (s : List ℕ). old ++ s) (sym (each_octets_at c.args.tag content g.T.Laid.parts c.args.values.now c.loop-value.value-index c.value-item.result c.loop-value-test.true c.value-item.is))
