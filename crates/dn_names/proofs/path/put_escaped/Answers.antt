-- A key without an octet 00 is put as it stands.
use Rattle.std.proofs.Common.{◌++◌, [], ◌∷◌, sym, ap, ◌∙◌, append_assoc}
use Rattle.dn_names.proofs.octets.BareLemmas.{escape_bare}
use Rattle.dn_names.proofs.path.put_escaped.Goals as goal

pub returns : goal.returns
returns c =
    let octets = c.args.octets.now in
    let out = c.args.out.now.items in
    let none = sym c.position_of.ensures.exact ∙ c.if-position_of-octets.false in
    record {
      ok =
          c.in_ok-extend_from_slice-2.ensures.items
          ∙ ap (λ t. t ++ 0 ∷ 0 ∷ []) c.in_ok-extend_from_slice.ensures.items
          ∙ append_assoc out octets (0 ∷ 0 ∷ [])
          ∙ ap (λ t. out ++ t) (sym (escape_bare octets none));
    }
