-- A text without a backslash that ends in no space stands for itself.
use Rattle.std.proofs.Common.{◌-◌, length, sym, ap, ◌∙◌, arith}
use Rattle.dn_names.specs.declared.octets.Reading.TheVariants.{Plain}
use Rattle.dn_names.specs.Reading.{octets_from, value_octets}
use Rattle.dn_names.proofs.octets.BareLemmas.{octets_from_bare}
use Rattle.dn_names.proofs.octets.bare_octets.Goals as goal

pub returns : goal.returns
unfolding value_octets
returns c =
    let octets = c.skip_spaces-octets.result.now in
    let none = sym c.position_of.ensures.exact ∙ c.if-position_of-len.false in
    let same = octets_from_bare octets (length octets - 1) none (omega (arith, c.if-len-eq0.false)) c.if-octets-len-eq32.false in
    record { exact = sym (ap (octets_from Plain) (sym c.skip_spaces-octets.ensures.exact) ∙ same) }
