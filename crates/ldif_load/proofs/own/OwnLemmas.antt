-- The values of an entry's own RDN.
use Rattle.std.proofs.Common.{◌≡◌, ℕ, suc, ◌+◌, ◌<◌, List, [], ◌∷◌, length, drop, get_or, true, refl, sym, ap, ◌∙◌, add-one}
use Rattle.std.proofs.Math.Seq.{drop-cons}
use Rattle.dir_tree.specs.dn_names.name.Names.{TypeAndValue}
use Rattle.std.specs.Prelude.{if◌then◌else◌}
use Rattle.std.specs.List.{list_all}
use Rattle.std.proofs.lemmas.Bool.{and_parts}
use Rattle.dir_tree.specs.Entry.{EntryInformation, has_key, values_of}
use Rattle.dir_tree.specs.attributes.Changes.{with_value, put_value}
use Rattle.ldif_load.specs.load.Loading.{with_pairs}

-- one pair more
pub pairs-step : (entry : EntryInformation) (pairs : List TypeAndValue) (index : ℕ) (pair : TypeAndValue) → index < length pairs → pair ≡ get_or pairs index pair
    → with_pairs entry (drop index pairs) ≡ with_pairs (with_value pair.kind pair.value entry) (drop (index + 1) pairs)
unfolding with_pairs
pairs-step entry pairs index pair within is =
    rw add-one (ap (with_pairs entry) (drop-cons pairs index pair within ∙ ap (λ first. first ∷ drop (suc index) pairs) (sym is)))

pub pairs-done : (entry : EntryInformation) (pairs : List TypeAndValue) → pairs ≡ [] → with_pairs entry pairs ≡ entry
unfolding with_pairs
pairs-done entry pairs none = ap (with_pairs entry) none

-- nothing is added where all are there
pub pairs-there : (entry : EntryInformation) (pairs : List TypeAndValue) → list_all (λ pair. has_key pair.value.key (values_of pair.kind entry.attributes)) pairs ≡ true
    → with_pairs entry pairs ≡ entry
unfolding with_pairs
pairs-there entry [] all = refl
pairs-there entry (pair ∷ pairs) all =
    let parts = and_parts _ _ all in
    ap (λ there. with_pairs (if there then entry else record entry { attributes = put_value pair.kind pair.value entry.attributes }) pairs) parts.0
    ∙ pairs-there entry pairs parts.1
