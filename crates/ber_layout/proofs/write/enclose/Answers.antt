-- The header was put behind the content, and moved before it.
use Rattle.std.proofs.Common.{◌≡◌, ◌+◌, ◌-◌, ◌++◌, ℕ, List, ◌∙◌, sym, ap, arith, length, take, drop, vec_len}
use Rattle.std.specs.List.{slice_rotate_right}
use Rattle.ber_elements.specs.write.Spelling.{length_octets, header_octets}
use Rattle.ber_layout.proofs.write.EncloseLemmas.{enclosed, written_over}
use Rattle.ber_layout.proofs.write.enclose.Goals as goal

pub returns-clause-ok : goal.returns-clause-ok
returns-clause-ok c =
    let old = c.args.out.now.items in
    let new = c.put_header.new.out.items in
    let moved = c.move_back.new.octets in
    let by = c.header_len.result in
    let count : c.put_header.new.out.len ≡ length new = sym (ap length (sym c.as_mut_slice.ensures.value) ∙ c.as_mut_slice.ensures.len) in
    let same : length moved ≡ length new = c.move_back.auto.octets ∙ ap length c.as_mut_slice.ensures.value in
    let before : vec_len c.args.out.now ≡ length old = omega arith in
    let whole : c.len-whole.result ≡ length old = c.len-whole.ensures ∙ before in
    let is : new ≡ old ++ header_octets c.args.tag (length old - c.args.start) =
    c.in_ok-put_header.ensures.ok ∙ ap (λ (k : ℕ). old ++ header_octets c.args.tag (k - c.args.start)) whole in
    let many : by ≡ 1 + length (length_octets (length old - c.args.start)) =
    c.header_len.ensures.exact ∙ ap (λ (k : ℕ). 1 + length (length_octets (k - c.args.start))) whole in
    written_over moved new c.put_header.new.out.len count same
    ∙ c.move_back.ensures
    ∙ ap (λ (s : List ℕ). take c.args.start s ++ slice_rotate_right (drop c.args.start s) by) c.as_mut_slice.ensures.value
    ∙ enclosed old new c.args.tag c.args.start by c.requires.start is many
