-- The word of an item that a word says, says it too.
use Rattle.std.proofs.Common.{◌≡◌, ℕ, ◌+◌, ◌==◌, ◌∙◌, ◌⊎◌, sym, ap, subst, refl, arith, inl, inr, Bool, true, false, List, ◌∷◌, ◌++◌, drop, take, get_or, position, option_map, Option, Some, None}
use Rattle.std.specs.Prelude.{codes, if◌then◌else◌}
use Rattle.std.specs.Str.{is_utf8, bytes_eq}
use Rattle.std.proofs.lemmas.Bool.{eqb-true}
use Rattle.std.proofs.lemmas.List.Quantifiers.{position-Some}
use Rattle.std.proofs.lemmas.Option.{option_and_then_some}
use Rattle.dir_tree.specs.plain_values.Options.{◌>>=◌}
use Rattle.dir_tree.specs.schema_tables.Attributes.{IsAttrId, attr_of, name_of}
use Rattle.dir_tree.specs.dn_names.name.Names.{Keyed}
use Rattle.dir_tree.specs.dn_names.NameValues.{value_of}
use Rattle.dir_tree.specs.dn_names.value.Values.{of_text}
use Rattle.dir_tree.proofs.schema_tables_proofs.Theorems.{IsAttrId-from_attr_of, attr_of-name_of}
use Rattle.dir_tree.proofs.dn_names_proofs.Theorems.{value_of-octets}
use Rattle.acdf_filters.specs.Asking.{Protected, Entry, Kind, Value}
use Rattle.explanation.specs.Cutting.{after, cut_at_equals}
use Rattle.explanation.specs.ItemWords.{kind_item, value_item, item_by, item_of}
use Rattle.certify.specs.Certificate.{item_word}
use Rattle.certify.proofs.laws.WordLemmas.{after-front, front-after, name_of-plain, cut_at_equals-plain, is_utf8-plain, is_utf8-equals, is_utf8-append, is_utf8-after}

-- a type of the table
pub record IsKind (item : Protected) : Type 0 where
  pub kind : ℕ
  pub exact : item ≡ Kind kind
  pub known : IsAttrId kind

-- a value of one, which is UTF-8
pub record IsValue (item : Protected) : Type 0 where
  pub kind : ℕ
  pub value : Keyed
  pub exact : item ≡ Value kind value
  pub known : IsAttrId kind
  pub read : value_of kind value.octets ≡ Some value
  pub is_text : is_utf8 value.octets ≡ true

-- a word says a type
IsKind-said : (name : List ℕ) (item : Protected) → kind_item name ≡ Some item → IsKind item
unfolding kind_item
IsKind-said name item said = by (attr_of name) refl said
  where
    by : (found : Option ℕ) → attr_of name ≡ found → option_map Kind found ≡ Some item → IsKind item
    by None found said = absurd cc
    by (Some kind) found said = record { kind = kind; exact = (let same : Kind kind ≡ item = cc in sym same); known = IsAttrId-from_attr_of name kind found }

-- what stands behind the first `=` of a text is one
behind-equals : (body : List ℕ) (parts : List ℕ × List ℕ) → is_utf8 body ≡ true → cut_at_equals body ≡ Some parts → is_utf8 parts.1 ≡ true
behind-equals body parts is_text cut = by (position (λ octet. octet == 61) body) refl cut
  where
    by : (found : Option ℕ) → position (λ octet. octet == 61) body ≡ found
        → option_map (λ place. (take place body, drop (place + 1) body)) found ≡ Some parts → is_utf8 parts.1 ≡ true
    by None found cut = absurd cc
    by (Some place) found cut =
        let at = position-Some (λ octet. octet == 61) body place 0 found in
        let mark : get_or body place 0 ≡ 61 = eqb-true (get_or body place 0) 61 at.1 in
        let same : (take place body, drop (place + 1) body) ≡ parts = cc in
        subst (λ (parts : List ℕ × List ℕ). is_utf8 parts.1 ≡ true) same (is_utf8-after body place is_text at.0 (omega (arith, mark)))

-- a word says a value
IsValue-said : (body : List ℕ) (item : Protected) → is_utf8 body ≡ true → value_item body ≡ Some item → IsValue item
unfolding value_item
IsValue-said body item is_text said =
    option_and_then_some (λ parts. attr_of parts.0 >>= λ kind. value_of kind parts.1 >>= λ value. Some (Value kind value)) (cut_at_equals body) item said
    (λ parts cut rest. option_and_then_some (λ kind. value_of kind parts.1 >>= λ value. Some (Value kind value)) (attr_of parts.0) item rest
    (λ kind named rest. option_and_then_some (λ value. Some (Value kind value)) (value_of kind parts.1) item rest
    (λ value read rest. is_value parts cut kind named value read rest)))
  where
    is_value : (parts : List ℕ × List ℕ) → cut_at_equals body ≡ Some parts → (kind : ℕ) → attr_of parts.0 ≡ Some kind
        → (value : Keyed) → value_of kind parts.1 ≡ Some value → Some (Value kind value) ≡ Some item → IsValue item
    is_value parts cut kind named value read same =
        let octets = value_of-octets kind parts.1 value read in
        record {
          kind = kind;
          value = value;
          exact = (let exact : Value kind value ≡ item = cc in sym exact);
          known = IsAttrId-from_attr_of parts.0 kind named;
          read = ap (value_of kind) octets ∙ read;
          is_text = ap is_utf8 octets ∙ behind-equals body parts is_text cut;
        }

-- what follows `value:` is a text where the word is one
behind-value : (word body : List ℕ) → is_utf8 word ≡ true → after (codes "value:") word ≡ Some body → is_utf8 body ≡ true
behind-value word body is_text found =
    let same = front-after (codes "value:") word body found in
    is_utf8-after (codes "value:" ++ body) 5 (ap is_utf8 (sym same) ∙ is_text) (omega arith) (omega arith)

-- a word says the entry, a type or a value
item-said : (word : List ℕ) (item : Protected) → is_utf8 word ≡ true → item_of word ≡ Some item → (item ≡ Entry) ⊎ IsKind item ⊎ IsValue item
unfolding item_of
item-said word item is_text said = by (bytes_eq word (codes "entry")) (after (codes "type:") word) (after (codes "value:") word) refl said
  where
    by : (is_entry : Bool) (name body : Option (List ℕ)) → after (codes "value:") word ≡ body
        → (if is_entry then Some Entry else item_by name body) ≡ Some item → (item ≡ Entry) ⊎ IsKind item ⊎ IsValue item
    by true name body found said = inl (let same : Entry ≡ item = cc in sym same)
    by false (Some name) body found said = inr (inl (IsKind-said name item said))
    by false None (Some body) found said = inr (inr (IsValue-said body item (behind-value word body is_text found) said))
    by false None None found said = absurd cc

-- a text is looked up
of_text-said : {A : Type 0} (look_up : List ℕ → Option A) (octets : List ℕ) (found : A) → of_text look_up octets ≡ Some found
    → (is_utf8 octets ≡ true) × (look_up octets ≡ Some found)
of_text-said look_up octets found said = by (is_utf8 octets) refl said
  where
    by : (is : Bool) → is_utf8 octets ≡ is → (if is then look_up octets else None) ≡ Some found → (is_utf8 octets ≡ true) × (look_up octets ≡ Some found)
    by true is said = (is, said)
    by false is said = absurd cc

pub of_text-known : {A : Type 0} (look_up : List ℕ → Option A) (octets : List ℕ) → is_utf8 octets ≡ true → of_text look_up octets ≡ look_up octets
of_text-known look_up octets is = ap (λ is. if is then look_up octets else None) is

-- the word of the entry
entry-read : of_text item_of (item_word Entry) ≡ Some Entry
unfolding item_of
entry-read = of_text-known item_of (codes "entry") (is_utf8-plain (codes "entry") refl)

-- that of a type
kind-read : (kind : ℕ) → IsAttrId kind → of_text item_of (item_word (Kind kind)) ≡ Some (Kind kind)
unfolding item_of kind_item
kind-read kind known =
    of_text-known item_of (item_word (Kind kind))
    (is_utf8-append (codes "type:") (name_of kind) (is_utf8-plain (codes "type:") refl) (is_utf8-plain (name_of kind) (name_of-plain kind known)))
    ∙ ap (λ found. item_by found (after (codes "value:") (item_word (Kind kind)))) (after-front (codes "type:") (name_of kind))
    ∙ ap (option_map Kind) (attr_of-name_of kind known)

-- that of a value
value_text : (kind : ℕ) (octets : List ℕ) → IsAttrId kind → is_utf8 octets ≡ true → is_utf8 (codes "value:" ++ (name_of kind ++ 61 ∷ octets)) ≡ true
value_text kind octets known is_text =
    is_utf8-append (codes "value:") (name_of kind ++ 61 ∷ octets) (is_utf8-plain (codes "value:") refl)
    (is_utf8-append (name_of kind) (61 ∷ octets) (is_utf8-plain (name_of kind) (name_of-plain kind known)) (is_utf8-append (codes "=") octets is_utf8-equals is_text))

value-read : (kind : ℕ) (value : Keyed) → IsAttrId kind → is_utf8 value.octets ≡ true → value_of kind value.octets ≡ Some value
    → of_text item_of (item_word (Value kind value)) ≡ Some (Value kind value)
unfolding item_of value_item
value-read kind value known is_text read =
    of_text-known item_of (item_word (Value kind value)) (value_text kind value.octets known is_text)
    ∙ ap (λ found. item_by None found) (after-front (codes "value:") (name_of kind ++ 61 ∷ value.octets))
    ∙ ap (λ cut. cut >>= λ parts. attr_of parts.0 >>= λ kind. value_of kind parts.1 >>= λ value. Some (Value kind value))
    (cut_at_equals-plain (name_of kind) value.octets (name_of-plain kind known))
    ∙ ap (λ found. found >>= λ kind. value_of kind value.octets >>= λ value. Some (Value kind value)) (attr_of-name_of kind known)
    ∙ ap (λ found. found >>= λ value. Some (Value kind value)) read

-- so the word of what words say says it
word-by : (item : Protected) → (item ≡ Entry) ⊎ IsKind item ⊎ IsValue item → of_text item_of (item_word item) ≡ Some item
word-by item (inl is_entry) = subst (λ (item : Protected). of_text item_of (item_word item) ≡ Some item) (sym is_entry) entry-read
word-by item (inr (inl kind)) = subst (λ (item : Protected). of_text item_of (item_word item) ≡ Some item) (sym kind.exact) (kind-read kind.kind kind.known)
word-by item (inr (inr value)) =
    subst (λ (item : Protected). of_text item_of (item_word item) ≡ Some item) (sym value.exact) (value-read value.kind value.value value.known value.is_text value.read)

pub item_of-item_word : (word : List ℕ) (item : Protected) → of_text item_of word ≡ Some item → of_text item_of (item_word item) ≡ Some item
item_of-item_word word item said =
    let parts = of_text-said item_of word item said in word-by item (item-said word item parts.0 parts.1)
