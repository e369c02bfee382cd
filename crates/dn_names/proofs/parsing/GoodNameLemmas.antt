-- What is read of a text is a name as the rules allow it.
use Rattle.std.proofs.Common.{◌≡◌, ◌≢◌, ℕ, ◌≤◌, ◌+◌, suc, true, false, List, [], ◌∷◌, map, length, reverse, Option, Some, None, Result, Ok, Err, refl, sym, ap, subst, ◌∙◌, arith, nat_lt}
use Rattle.std.specs.Prelude.{◌==◌, ◌&&◌, nat_le, if◌then◌else◌}
use Rattle.std.specs.Option.{option_map, option_and_then}
use Rattle.std.specs.List.{AllByRecursion}
use Rattle.std.proofs.lemmas.Bool.Decides.{nat_tests}
use Rattle.std.proofs.lemmas.Grind.{reverse_onto}
use Rattle.std.proofs.lemmas.List.{length-reverse, length-map}
use Rattle.base_laws.proofs.Theorems.{all_push}
use Rattle.schema_tables.specs.Attributes.{attr_of, is_naming, syntax_of}
use Rattle.dn_names.specs.declared.error.BadName.{BadName}
use Rattle.dn_names.specs.declared.error.BadName.TheVariants.{TooMany}
use Rattle.dn_names.specs.name.Names.{Keyed, TypeAndValue, RdnSequence}
use Rattle.dn_names.specs.Spelling.{WrittenPair, IsJoined, SpellsRdn, SpellsName}
use Rattle.dn_names.specs.value.Values.{plain_key}
use Rattle.dn_names.specs.Reading.{parts_of, parts_from, is_blank, pair_of, rdn_of, written_of}
use Rattle.dn_names.specs.Resolving.{naming_value, pair_meaning, put_pair, add_pair, or_part, and_then, rdn_from, rdns_from, from_root, resolve, resolve_rdn}
use Rattle.dn_names.specs.parsing.NameText.{NameText, RdnText}
use Rattle.dn_names.specs.name.GoodNames.{IsGoodPair, IsInTableOrder, IsGoodRdn, IsGoodName}
use Rattle.dn_names.proofs.parts.PartsLemmas.{length-parts_from}
use Rattle.dn_names.proofs.resolve.NamingTextLemmas.{found_text}
use Rattle.dn_names.proofs.parsing.OrderedLemmas.{put_pair-all, put_pair-ordered, length-put_pair}

-- a value that was found has the octets that it was found for
pub naming_value-octets : (number : ℕ) (octets : List ℕ) (value : Keyed) → naming_value number octets ≡ Some value → value.octets ≡ octets
unfolding naming_value
naming_value-octets number octets value h =
    elim (is_naming number && nat_le (length octets) 65536) as (λ b. (if b then option_map (λ key. record { octets = octets; key = key }) (option_and_then (λ syntax. plain_key syntax octets) (syntax_of number)) else None) ≡ Some value → value.octets ≡ octets) [
      | true ↦ λ found. (found_text (option_and_then (λ syntax. plain_key syntax octets) (syntax_of number)) octets value found).0
      | false ↦ λ found. absurd cc
    ] h

value_good : (number : ℕ) (octets : List ℕ) (found : Option Keyed) (pair : TypeAndValue) → naming_value number octets ≡ found → option_map (λ value. record { kind = number; value = value }) found ≡ Some pair → IsGoodPair pair
value_good number octets None pair e is = absurd cc
value_good number octets (Some value) pair e is =
    let pair_is : record { kind = number; value = value } ≡ pair = cc in
    subst (λ (p : TypeAndValue). IsGoodPair p) pair_is (ap (naming_value number) (naming_value-octets number octets value e) ∙ e)

kind_good : (kind : Option ℕ) (octets : List ℕ) (pair : TypeAndValue) → option_and_then (λ number. option_map (λ value. record { kind = number; value = value }) (naming_value number octets)) kind ≡ Some pair → IsGoodPair pair
kind_good None octets pair is = absurd cc
kind_good (Some number) octets pair is = value_good number octets (naming_value number octets) pair refl is

-- a pair that has a meaning is good
pair_meaning-good : (written : WrittenPair) (pair : TypeAndValue) → pair_meaning written ≡ Some pair → IsGoodPair pair
unfolding pair_meaning
pair_meaning-good written pair is = kind_good (attr_of written.kind) written.octets pair is

add_found : (pairs next : List TypeAndValue) (meaning : Option TypeAndValue) → option_and_then (λ pair. put_pair pair pairs) meaning ≡ Some next → (pair : TypeAndValue) × (meaning ≡ Some pair) × (put_pair pair pairs ≡ Some next)
add_found pairs next None is = absurd cc
add_found pairs next (Some pair) is = (pair, refl, is)

-- what the pairs of an RDN leave
pub record Adds (pairs out : List TypeAndValue) (count : ℕ) : Type 0 where
  pub good : AllByRecursion IsGoodPair out
  pub ordered : IsInTableOrder out
  pub size : length out ≡ length pairs + count

rdn_from-Adds : (index : ℕ) (pairs : List TypeAndValue) (written : List WrittenPair) (out : List TypeAndValue) → rdn_from index pairs written ≡ Ok out → AllByRecursion IsGoodPair pairs → IsInTableOrder pairs → Adds pairs out (length written)
rdn_from-Adds index pairs [] out h good ordered =
    let is : pairs ≡ out = cc in
    record {
      good = subst (λ (t : List TypeAndValue). AllByRecursion IsGoodPair t) is good;
      ordered = subst (λ (t : List TypeAndValue). IsInTableOrder t) is ordered;
      size = omega (arith, ap length is);
    }
rdn_from-Adds index pairs (written ∷ more) out h good ordered =
    elim (add_pair pairs written) as (λ a. add_pair pairs written ≡ a → or_part index a (λ next. rdn_from (index + 1) next more) ≡ Ok out → Adds pairs out (suc (length more))) [
      | None ↦ λ _ e. absurd cc
      | Some next ↦ λ is e. (let found = add_found pairs next (pair_meaning written) is in
          let later = rdn_from-Adds (index + 1) next more out e
          (put_pair-all found.0 IsGoodPair (pair_meaning-good written found.0 found.1) pairs next found.2 good)
          (put_pair-ordered found.0 pairs next found.2 ordered) in
          record {
            good = later.good;
            ordered = later.ordered;
            size = omega (arith, later.size, length-put_pair found.0 pairs next found.2);
          })
    ] refl h

-- an RDN of at least one pair that is read is good
rdn_good : (index : ℕ) (written : List WrittenPair) (rdn : List TypeAndValue) → written ≢ [] → rdn_from index [] written ≡ Ok rdn → IsGoodRdn rdn
rdn_good index [] rdn filled h = absurd (filled refl)
rdn_good index (w ∷ ws) rdn filled h =
    let adds = rdn_from-Adds index [] (w ∷ ws) rdn h tt tt in
    record {
      filled = λ nil. (let size = adds.size in let empty = ap length nil in omega (arith, size, empty));
      good = adds.good;
      ordered = adds.ordered;
    }

-- what RDNs give
pub record Reads (written : List (List WrittenPair)) (rdns : RdnSequence) : Type 0 where
  pub good : AllByRecursion IsGoodRdn rdns
  pub size : length rdns ≡ length written

cons_found : (rdn : List TypeAndValue) (rest : Result RdnSequence BadName) (out : RdnSequence) → and_then rest (λ rdns. Ok (rdn ∷ rdns)) ≡ Ok out → (rdns : RdnSequence) × (rest ≡ Ok rdns) × (out ≡ rdn ∷ rdns)
cons_found rdn (Err e) out is = absurd cc
cons_found rdn (Ok rdns) out is = (rdns, refl, cc)

rdns_from-Reads : (index : ℕ) (written : List (List WrittenPair)) (out : RdnSequence) → AllByRecursion (λ ws. ws ≢ []) written → rdns_from index written ≡ Ok out → Reads written out
rdns_from-Reads index [] out filled h =
    let is : [] ≡ out = cc in
    record { good = subst (λ (t : RdnSequence). AllByRecursion IsGoodRdn t) is tt; size = sym (ap length is) }
rdns_from-Reads index (w ∷ ws) out filled h =
    elim (rdn_from index [] w) as (λ r. rdn_from index [] w ≡ r → and_then r (λ rdn. and_then (rdns_from (index + length w) ws) (λ rdns. Ok (rdn ∷ rdns))) ≡ Ok out → Reads (w ∷ ws) out) [
      | Err cause ↦ λ _ e. absurd cc
      | Ok rdn ↦ λ is e. (let found = cons_found rdn (rdns_from (index + length w) ws) out e in
          let later = rdns_from-Reads (index + length w) ws found.0 filled.1 found.1 in
          record {
            good = subst (λ (t : RdnSequence). AllByRecursion IsGoodRdn t) (sym found.2) (rdn_good index w rdn filled.0 is, later.good);
            size = ap length found.2 ∙ ap suc later.size;
          })
    ] refl h

pub all_reverse : {A : Type 0} (P : A → Type 0) (xs : List A) → AllByRecursion P xs → AllByRecursion P (reverse xs)
all_reverse P [] h = tt
all_reverse {A} P (x ∷ xs) h = subst (λ (t : List A). AllByRecursion P t) (sym (reverse_onto xs x [])) (all_push P (reverse xs) x (all_reverse P xs h.1) h.0)

joined_all : {R : Type 0} (mark : ℕ) (P : R → List ℕ → Type 0) (Q : R → Type 0) → ((r : R) (text : List ℕ) → P r text → Q r) → (rs : List R) (text : List ℕ) → IsJoined mark P rs text → AllByRecursion Q rs
joined_all mark P Q each [] text j = tt
joined_all mark P Q each (r ∷ []) text j = (each r text j, tt)
joined_all mark P Q each (r ∷ s ∷ rs) text (front, rest, e, p, j) = (each r front p, joined_all mark P Q each (s ∷ rs) rest j)

rdn_filled : (pairs : List WrittenPair) (text : List ℕ) → SpellsRdn pairs text → pairs ≢ []
rdn_filled [] text j = absurd j
rdn_filled (p ∷ ps) text j = λ e. cc

name_filled : (written : List (List WrittenPair)) (text : List ℕ) → SpellsName written text → AllByRecursion (λ ws. ws ≢ []) written
name_filled [] text h = tt
name_filled (r ∷ rs) text h = joined_all 44 SpellsRdn (λ ws. ws ≢ []) rdn_filled (r ∷ rs) text h

root_found : (rest : Result RdnSequence BadName) (name : RdnSequence) → from_root rest ≡ Ok name → (rdns : RdnSequence) × (rest ≡ Ok rdns) × (reverse rdns ≡ name)
root_found (Err e) name is = absurd cc
root_found (Ok rdns) name is = (rdns, refl, cc)

root_good : (written : List (List WrittenPair)) (name : RdnSequence) → AllByRecursion (λ ws. ws ≢ []) written → from_root (rdns_from 0 written) ≡ Ok name → length written ≤ 64 → IsGoodName name
root_good written name filled h few =
    let found = root_found (rdns_from 0 written) name h in
    let reads = rdns_from-Reads 0 written found.0 filled found.1 in
    record {
      fits = (let size = ap length (sym found.2) ∙ length-reverse found.0 ∙ reads.size in omega (arith, size, few));
      good = subst (λ (t : RdnSequence). AllByRecursion IsGoodRdn t) found.2 (all_reverse IsGoodRdn found.0 reads.good);
    }

-- a name that is read of a text is as the rules allow it
pub IsGoodName-from_NameText : (name : RdnSequence) (text : List ℕ) → NameText name text → IsGoodName name
unfolding NameText resolve
IsGoodName-from_NameText name text (written, spells, h) =
    elim (nat_lt 64 (length written)) as (λ b. nat_lt 64 (length written) ≡ b → (if b then Err TooMany else from_root (rdns_from 0 written)) ≡ Ok name → IsGoodName name) [
      | true ↦ λ _ e. absurd cc
      | false ↦ λ is e. root_good written name (name_filled written text spells) e (grind (arith, nat_tests))
    ] refl h

-- and so is an RDN
pub IsGoodName-from_RdnText : (name : RdnSequence) (text : List ℕ) → RdnText name text → IsGoodName name
unfolding RdnText resolve_rdn
IsGoodName-from_RdnText name text (written, spells, h) =
    elim (length written == 1) as (λ b. (length written == 1) ≡ b → (if b then from_root (rdns_from 0 written) else Err TooMany) ≡ Ok name → IsGoodName name) [
      | true ↦ λ is e. root_good written name (name_filled written text spells) e (grind (arith, nat_tests))
      | false ↦ λ _ e. absurd cc
    ] refl h

-- an RDN has a pair, whatever its text is
rdn_of-filled : (text : List ℕ) → rdn_of text ≢ []
unfolding rdn_of parts_of
rdn_of-filled text = λ none. omega (arith, ap length none, length-map (parts_from 43 false text) pair_of, length-parts_from 43 false text)

all_filled : (parts : List (List ℕ)) → AllByRecursion (λ ws. ws ≢ []) (map rdn_of parts)
all_filled [] = tt
all_filled (part ∷ parts) = (rdn_of-filled part, all_filled parts)

written_of-filled : (text : List ℕ) → AllByRecursion (λ ws. ws ≢ []) (written_of text)
unfolding written_of
written_of-filled text =
    elim (is_blank text) as (λ b. AllByRecursion (λ ws. ws ≢ []) (if b then [] else map rdn_of (parts_of 44 text))) [
      | true ↦ tt
      | false ↦ all_filled (parts_of 44 text)
    ]

-- and so is what few RDNs of a text give
pub IsGoodName-from_written_of : (text : List ℕ) (name : RdnSequence) → from_root (rdns_from 0 (written_of text)) ≡ Ok name → length (written_of text) ≤ 64 → IsGoodName name
IsGoodName-from_written_of text name h few = root_good (written_of text) name (written_of-filled text) h few
