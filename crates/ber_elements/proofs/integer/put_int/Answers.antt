-- What is appended is the spelling, by the sign.
use Rattle.std.proofs.Common.{◌≡◌, ◌++◌, ℕ, List, ap, ◌∙◌, drop, w64}
use Rattle.std.specs.Int.{to_be_bytes}
use mir.Val.{SFits}
use Rattle.std.proofs.lemmas.Result.{on_ok_weaker}
use Rattle.std.proofs.lemmas.Int.{to_z-of_z}
use Rattle.ber_elements.specs.Integer.{magnitude, int_octets}
use Rattle.ber_elements.proofs.integer.IntegerLemmas.{negative_octets, natural_octets}
use Rattle.ber_elements.proofs.integer.put_int.Goals as goal

pub returns-then-value-lt0-clause-ok : goal.returns-then-value-lt0-clause-ok
returns-then-value-lt0-clause-ok c =
    let fits : SFits w64 c.args.value = c.ranges.value in
    let sign = simp to_z-of_z at c.if-value-lt0.true in
    let size : c.magnitude.result ≡ magnitude c.args.value = c.magnitude.ensures ∙ ap magnitude (to_z-of_z w64 c.args.value fits) in
    let bytes = c.to_be_bytes-octets.ensures ∙ ap (λ (n : ℕ). to_be_bytes w64 n) size in
    let same : drop c.spare_zeros-spare.result c.turn.new.octets ≡ int_octets c.args.value =
    negative_octets c.args.value c.to_be_bytes-octets.result c.turn.new.octets c.spare_zeros-spare.result sign bytes c.spare_zeros-spare.ensures.spare c.turn.ensures in
    on_ok_weaker c.put_behind.result (λ e. e ∙ ap (λ (s : List ℕ). c.args.out.now.items ++ s) same) c.put_behind.ensures.ok

pub returns-clause-ok : goal.returns-clause-ok
returns-clause-ok c =
    let fits : SFits w64 c.args.value = c.ranges.value in
    let sign = simp to_z-of_z at c.if-value-lt0.false in
    let size : c.magnitude.result ≡ magnitude c.args.value = c.magnitude.ensures ∙ ap magnitude (to_z-of_z w64 c.args.value fits) in
    let bytes = c.to_be_bytes-octets.ensures ∙ ap (λ (n : ℕ). to_be_bytes w64 n) size in
    let same : drop c.spare_zeros-spare.result c.to_be_bytes-octets.result ≡ int_octets c.args.value =
    natural_octets c.args.value c.to_be_bytes-octets.result c.spare_zeros-spare.result sign bytes c.spare_zeros-spare.ensures.spare in
    on_ok_weaker c.put_behind-2.result (λ e. e ∙ ap (λ (s : List ℕ). c.args.out.now.items ++ s) same) c.put_behind-2.ensures.ok
