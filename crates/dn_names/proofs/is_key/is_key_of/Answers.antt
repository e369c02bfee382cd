-- The octets are the key where nothing is left of them.
use Rattle.std.proofs.Common.{◌≡◌, ℕ, List, [], ◌∷◌, Some, None, false, IsTrue, length, refl, sym, ap, ◌∙◌, arith}
use Rattle.std.specs.Prelude.{◌==◌, ◌↔◌}
use Rattle.std.proofs.lemmas.Bool.{false≢true}
use Rattle.std.proofs.lemmas.Bool.Decides.{nat_tests}
use Rattle.dn_names.specs.declared.printing.Shown.TheVariants.{Key}
use Rattle.dn_names.specs.Printing.{print_by, shown_of, name_key}
use Rattle.dn_names.specs.KeyReading.{strip}
use Rattle.dn_names.proofs.is_key.StripLemmas.{strip_all, strip_nil}
use Rattle.dn_names.proofs.is_key.is_key_of.Goals as goal

nothing_left : (key octets rest : List ℕ) → Some rest ≡ strip key octets → IsTrue (length rest == 0) ↔ (octets ≡ key)
nothing_left key octets [] e = ((λ _. strip_nil key octets (sym e)), λ _. refl)
nothing_left key octets (x ∷ rest) e =
    ((λ t. absurd (grind (arith, nat_tests, t))), λ same. (let all = e ∙ ap (strip key) same ∙ strip_all key in absurd cc))

something_else : (key octets : List ℕ) → None ≡ strip key octets → IsTrue false ↔ (octets ≡ key)
something_else key octets e = ((λ t. absurd (false≢true t)), λ same. (let all = e ∙ ap (strip key) same ∙ strip_all key in absurd cc))

pub returns-in-Some : goal.returns-in-Some
unfolding name_key
returns-in-Some c =
    let there = rw (c.deref.ensures.value, c.name.view_is) at c.in-Some.ensures.exact in
    record { exact = rw c.is_empty.ensures (nothing_left (print_by (shown_of Key) c.args.name.now) c.args.key.now c.in-Some.rest.now there) }

pub returns-in-None : goal.returns-in-None
unfolding name_key
returns-in-None c =
    let there = rw (c.deref.ensures.value, c.name.view_is) at c.in-None.ensures.exact in
    record { exact = something_else (print_by (shown_of Key) c.args.name.now) c.args.key.now there }
