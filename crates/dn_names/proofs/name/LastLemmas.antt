-- Lemmas on the last RDN of a name.
use Rattle.std.proofs.Common.{◌≡◌, ◌+◌, ◌-◌, [], ◌∷◌, ◌++◌, length, get_or, slice_get, sym, ap, ◌∙◌, inl, inr, append-nil, arith}
use Rattle.std.specs.List.{flat_map}
use Rattle.std.specs.Option.{option_map_or}
use Rattle.std.proofs.lemmas.List.{drop_more, drop_all}
use Rattle.std.proofs.lemmas.Option.{slice_get_cases}
use Rattle.dn_names.specs.name.Names.{RdnSequence, last_rdn}

-- the pairs of the RDN at the last place
pub last_rdn-slice_get :
    (name : RdnSequence) → option_map_or (λ rdn. rdn) (slice_get name (length name - 1)) [] ≡ last_rdn name
last_rdn-slice_get name =
    let place = length name - 1 in
    elim ((slice_get_cases name place).1) [
      | inl inside ↦
          ap (λ found. option_map_or (λ rdn. rdn) found []) inside.2
          ∙ sym (append-nil inside.0)
          ∙ ap (λ rdn. rdn ++ []) (sym inside.3)
          ∙ sym (ap (flat_map (λ rdn. rdn))
          (drop_more name place inside.0 inside.1
          ∙ ap (λ rest. get_or name place inside.0 ∷ rest) (drop_all (place + 1) name (omega arith))))
      | inr past ↦
          let bound = past.0 in
          ap (λ found. option_map_or (λ rdn. rdn) found []) past.1
          ∙ sym (ap (flat_map (λ rdn. rdn)) (drop_all place name bound))
    ]
