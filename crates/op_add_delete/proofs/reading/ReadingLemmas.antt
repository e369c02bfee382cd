-- The attributes of a request, read one after the other.
use Rattle.std.proofs.Common.{◌≡◌, ◌≢◌, ◌⊎◌, inl, inr, ℕ, ◌+◌, Bool, true, false, ◌||◌, List, [], ◌∷◌, ◌++◌, length, drop, Option, Some, None, Result, Ok, Err, refl, sym, ap, ◌∙◌, append_assoc}
use Rattle.std.specs.Prelude.{◌==◌, if◌then◌else◌}
use Rattle.std.specs.List.{AllByRecursion, IsDistinct, list_any}
use Rattle.std.proofs.lemmas.Bool.{cases_Bool, or_parts, eqb-true, eq-eqb, or_right}
use Rattle.std.proofs.lemmas.List.{append-nil, map-append}
use Rattle.std.proofs.lemmas.List.Folds.{list_any-append}
use Rattle.dir_tree.proofs.base_laws_proofs.Theorems.{none_passes, list_any-none}
use Rattle.ldap_msg.specs.plain_values.Results.{◌>>=◌}
use Rattle.ldap_msg.specs.plain_values.Answers.{IsFaultOf}
use Rattle.dir_tree.specs.schema_tables.Attributes.{attr_of}
use Rattle.dir_tree.specs.dn_names.name.Names.{Keyed, RdnSequence}
use Rattle.dir_tree.specs.Entry.{Attribute, EntryInformation, kinds_of, has_kind, is_match, IsGoodAttribute, IsGoodAttributes}
use Rattle.dir_tree.specs.attributes.Changes.{set_in, with_values}
use Rattle.ldap_msg.specs.declared.operations.ResultCode.{ResultCode}
use Rattle.ldap_msg.specs.declared.operations.ResultCode.TheVariants as code
use Rattle.ldap_msg.specs.declared.kinds.KindValues.{KindValues}
use Rattle.op_add_delete.specs.declared.fault.Fault.{Fault}
use Rattle.op_add_delete.specs.declared.fault.Fault.TheVariants as fault
use Rattle.op_add_delete.specs.reading.NewEntries.{read_value, read_values, read_known, read_attribute, read_each, repeats, has_twice, without_twice, lacks_values}
use Rattle.op_add_delete.specs.reading.Reading.{cause_of}
use Rattle.op_add_delete.specs.reading.Steps.{finished, entry_from, IsPut}

-- ---- values, one after the other

-- items before those of a result
abbrev pub put_before : {A E : Type 0} → List A → Result (List A) E → Result (List A) E
put_before done (Ok left) = Ok (done ++ left)
put_before done (Err fault) = Err fault

pub before-none : {A E : Type 0} (result : Result (List A) E) → result ≡ put_before [] result
before-none (Ok left) = refl
before-none (Err fault) = refl

pub before-more : {A E : Type 0} (done : List A) (x : A) (result : Result (List A) E) → put_before done (result >>= λ left. Ok (x ∷ left)) ≡ put_before (done ++ x ∷ []) result
before-more done x (Ok left) = ap (λ items. Ok items) (sym (append_assoc done (x ∷ []) left))
before-more done x (Err fault) = refl

-- one value more
pub values-step : (kind : ℕ) (done : List Keyed) (given : List (List ℕ)) (index : ℕ) (octets : List ℕ) (value : Keyed) → drop index given ≡ octets ∷ drop (index + 1) given → read_value kind octets ≡ Ok value
    → put_before done (read_values kind (drop index given)) ≡ put_before (done ++ value ∷ []) (read_values kind (drop (index + 1) given))
unfolding read_values
values-step kind done given index octets value left good =
    ap (λ given. put_before done (read_values kind given)) left
    ∙ ap (λ first. put_before done (first >>= λ value. read_values kind (drop (index + 1) given) >>= λ values. Ok (value ∷ values))) good
    ∙ before-more done value (read_values kind (drop (index + 1) given))

-- one that is none decides
pub values-stop : (kind : ℕ) (done : List Keyed) (given : List (List ℕ)) (index : ℕ) (octets : List ℕ) (code : ResultCode) → drop index given ≡ octets ∷ drop (index + 1) given → read_value kind octets ≡ Err code
    → put_before done (read_values kind (drop index given)) ≡ Err code
unfolding read_values
values-stop kind done given index octets code left bad =
    ap (λ given. put_before done (read_values kind given)) left
    ∙ ap (λ first. put_before done (first >>= λ value. read_values kind (drop (index + 1) given) >>= λ values. Ok (value ∷ values))) bad

pub values-fault : (kind : ℕ) (done : List Keyed) (given : List (List ℕ)) (index : ℕ) (octets : List ℕ) (all : Result (List Keyed) ResultCode) (bad : Fault)
    → drop index given ≡ octets ∷ drop (index + 1) given → all ≡ put_before done (read_values kind (drop index given)) → IsFaultOf (cause_of bad) (read_value kind octets) → IsFaultOf (cause_of bad) all
values-fault kind done given index octets all fault.NoMemory left is says = tt
values-fault kind done given index octets all (fault.Refused code) left is says = is ∙ values-stop kind done given index octets code left says

pub values-done : (kind : ℕ) (done : List Keyed) (given : List (List ℕ)) → given ≡ [] → put_before done (read_values kind given) ≡ Ok done
unfolding read_values
values-done kind done given none = ap (λ given. put_before done (read_values kind given)) none ∙ ap (λ items. Ok items) (append-nil done)

-- values come where octets are given
pub values-filled : (kind : ℕ) (given : List (List ℕ)) (values : List Keyed) → (length given == 0) ≡ false → read_values kind given ≡ Ok values → values ≢ []
unfolding read_values
values-filled kind [] values some good = absurd cc
values-filled kind (octets ∷ rest) values some good = by (read_value kind octets) (read_values kind rest) good
  where
    by : (first : Result Keyed ResultCode) (later : Result (List Keyed) ResultCode) → (first >>= λ value. later >>= λ values. Ok (value ∷ values)) ≡ Ok values → values ≢ []
    by (Ok value) (Ok more) is = λ none. (let has : value ∷ more ≡ values = cc in absurd cc)
    by (Ok value) (Err fault) is = absurd cc
    by (Err fault) later is = absurd cc

-- ---- what comes twice

-- distinct items don't repeat, and the other way round
pub distinct-repeats : {A : Type 0} (same : A → A → Bool) (xs : List A) → repeats same xs ≡ false → IsDistinct same xs
unfolding repeats IsDistinct
distinct-repeats same [] e = tt
distinct-repeats same (x ∷ xs) e = (let parts = or_parts (list_any (same x) xs) (repeats same xs) e in (none_passes (same x) xs parts.0, distinct-repeats same xs parts.1))

pub repeats-distinct : {A : Type 0} (same : A → A → Bool) (xs : List A) → IsDistinct same xs → repeats same xs ≡ false
unfolding repeats IsDistinct
repeats-distinct same [] h = refl
repeats-distinct same (x ∷ xs) h = rw (list_any-none (same x) xs h.0, repeats-distinct same xs h.1) refl

no-repeats : (attributes : List Attribute) → AllByRecursion IsGoodAttribute attributes → list_any (λ attribute. repeats is_match attribute.values) attributes ≡ false
no-repeats [] h = refl
no-repeats (x ∷ xs) h = rw (repeats-distinct is_match x.values h.0.distinct, no-repeats xs h.1) refl

-- nothing comes twice in good attributes
twice-good : (attributes : List Attribute) → IsGoodAttributes attributes → has_twice attributes ≡ false
twice-good attributes good =
    rw (repeats-distinct (λ one other. one == other) (kinds_of attributes) good.distinct, no-repeats attributes good.good) refl

-- items that are the same as one before
repeats-behind : {A : Type 0} (same : A → A → Bool) (done : List A) (x : A) (left : List A) → list_any (λ other. same other x) done ≡ true → repeats same (done ++ x ∷ left) ≡ true
unfolding repeats
repeats-behind same [] x left e = absurd cc
repeats-behind same (y ∷ done) x left e = elim (cases_Bool (same y x)) [
  | inl f ↦ (let found : list_any (same y) (done ++ x ∷ left) ≡ true = list_any-append (same y) done (x ∷ left) ∙ or-true (list_any (same y) done) (same y x || list_any (same y) left) (ap (λ b. b || list_any (same y) left) f) in ap (λ b. b || repeats same (done ++ x ∷ left)) found)
  | inr f ↦ (let later : list_any (λ other. same other x) done ≡ true = rw f at e in or-true (list_any (same y) (done ++ x ∷ left)) (repeats same (done ++ x ∷ left)) (repeats-behind same done x left later))
]
  where
    or-true : (a b : Bool) → b ≡ true → (a || b) ≡ true
    or-true true b e = refl
    or-true false b e = e

eqb-turn : (a b : ℕ) → (a == b) ≡ true → (b == a) ≡ true
eqb-turn a b e = eq-eqb b a (sym (eqb-true a b e))

kind-turn : (kind : ℕ) (kinds : List ℕ) → list_any (λ other. kind == other) kinds ≡ true → list_any (λ other. other == kind) kinds ≡ true
kind-turn kind [] e = absurd cc
kind-turn kind (x ∷ xs) e = elim (cases_Bool (kind == x)) [
  | inl f ↦ ap (λ b. b || list_any (λ other. other == kind) xs) (eqb-turn kind x f)
  | inr f ↦ (let later : list_any (λ other. kind == other) xs ≡ true = rw f at e in or_right (x == kind) (list_any (λ other. other == kind) xs) (kind-turn kind xs later))
]

-- the type is there already
pub twice-kind : (done left : List Attribute) (attribute : Attribute) → has_kind attribute.kind done ≡ true → has_twice (done ++ attribute ∷ left) ≡ true
twice-kind done left attribute e =
    let kinds : repeats (λ one other. one == other) (kinds_of (done ++ attribute ∷ left)) ≡ true =
    ap (repeats (λ one other. one == other)) (map-append (λ (attribute : Attribute). attribute.kind) done (attribute ∷ left))
    ∙ repeats-behind (λ one other. one == other) (kinds_of done) attribute.kind (kinds_of left) (kind-turn attribute.kind (kinds_of done) e) in
    ap (λ b. b || list_any (λ attribute. repeats is_match attribute.values) (done ++ attribute ∷ left)) kinds

-- two of the values match
pub twice-values : (done left : List Attribute) (attribute : Attribute) → repeats is_match attribute.values ≡ true → has_twice (done ++ attribute ∷ left) ≡ true
twice-values done left attribute e =
    or_right (repeats (λ one other. one == other) (kinds_of (done ++ attribute ∷ left))) (list_any (λ attribute. repeats is_match attribute.values) (done ++ attribute ∷ left))
    (list_any-append (λ (attribute : Attribute). repeats is_match attribute.values) done (attribute ∷ left)
    ∙ or_right (list_any (λ attribute. repeats is_match attribute.values) done) _ (ap (λ b. b || list_any (λ attribute. repeats is_match attribute.values) left) e))

pub finished-twice : (twice : Bool) (done left : List Attribute) (attribute : Attribute) → has_twice (done ++ attribute ∷ left) ≡ true → finished true done left ≡ finished twice done (attribute ∷ left)
finished-twice true done left attribute e = refl
finished-twice false done left attribute e = sym (ap (λ b. if b then Err code.AttributeOrValueExists else Ok (done ++ attribute ∷ left)) e)

pub set_in-new : (kind : ℕ) (values : List Keyed) (attributes : List Attribute) → has_kind kind attributes ≡ false → set_in kind values attributes ≡ attributes ++ record { kind = kind; values = values } ∷ []
set_in-new kind values [] e = refl
set_in-new kind values (x ∷ xs) e =
    let parts = or_parts (kind == x.kind) (has_kind kind xs) e in
    rw parts.0 (ap (λ later. x ∷ later) (set_in-new kind values xs parts.1))

pub finished-new : (done left : List Attribute) (attribute : Attribute) → finished false (done ++ attribute ∷ []) left ≡ finished false done (attribute ∷ left)
finished-new done left attribute = ap without_twice (append_assoc done (attribute ∷ []) left)

-- an attribute put last, or none
pub put-nothing : (entry : EntryInformation) (attribute : Attribute) → IsPut true entry attribute true entry
put-nothing entry attribute = record { name = refl; goes_on = λ left. refl }

pub put-twice : (entry : EntryInformation) (attribute : Attribute) → (has_kind attribute.kind entry.attributes || repeats is_match attribute.values) ≡ true → IsPut false entry attribute true entry
put-twice entry attribute e = record {
  name = refl;
  goes_on = λ left. finished-twice false entry.attributes left attribute (by left (cases_Bool (has_kind attribute.kind entry.attributes)));
}
  where
    by : (left : List Attribute) → ((has_kind attribute.kind entry.attributes ≡ true) ⊎ (has_kind attribute.kind entry.attributes ≡ false)) → has_twice (entry.attributes ++ attribute ∷ left) ≡ true
    by left (inl f) = twice-kind entry.attributes left attribute f
    by left (inr f) = twice-values entry.attributes left attribute (sym (ap (λ b. b || repeats is_match attribute.values) f) ∙ e)

pub put-last : (entry new : EntryInformation) (attribute : Attribute) → has_kind attribute.kind entry.attributes ≡ false → new ≡ with_values attribute.kind attribute.values entry → IsPut false entry attribute false new
put-last entry new attribute e is = record {
  name = ap (λ (entry : EntryInformation). entry.name) is;
  goes_on = λ left.
      ap (λ (entry : EntryInformation). finished false entry.attributes left) is
      ∙ ap (λ attributes. finished false attributes left) (set_in-new attribute.kind attribute.values entry.attributes e)
      ∙ finished-new entry.attributes left attribute;
}

-- ---- attributes, one after the other

-- one attribute more
pub each-step : (twice later : Bool) (done more : List Attribute) (given : List KindValues) (index : ℕ) (item : KindValues) (attribute : Attribute)
    → drop index given ≡ item ∷ drop (index + 1) given → read_attribute item ≡ Ok attribute → ((left : List Attribute) → finished later more left ≡ finished twice done (attribute ∷ left))
    → (read_each (drop index given) >>= finished twice done) ≡ (read_each (drop (index + 1) given) >>= finished later more)
unfolding read_each
each-step twice later done more given index item attribute left good goes =
    ap (λ given. read_each given >>= finished twice done) left
    ∙ ap (λ first. (first >>= λ attribute. read_each (drop (index + 1) given) >>= λ attributes. Ok (attribute ∷ attributes)) >>= finished twice done) good
    ∙ by (read_each (drop (index + 1) given))
  where
    by : (rest : Result (List Attribute) ResultCode) → ((rest >>= λ attributes. Ok (attribute ∷ attributes)) >>= finished twice done) ≡ (rest >>= finished later more)
    by (Ok attributes) = sym (goes attributes)
    by (Err fault) = refl

-- one that is none decides
pub each-stop : (twice : Bool) (done : List Attribute) (given : List KindValues) (index : ℕ) (item : KindValues) (code : ResultCode)
    → drop index given ≡ item ∷ drop (index + 1) given → read_attribute item ≡ Err code → (read_each (drop index given) >>= finished twice done) ≡ Err code
unfolding read_each
each-stop twice done given index item code left bad =
    ap (λ given. read_each given >>= finished twice done) left
    ∙ ap (λ first. (first >>= λ attribute. read_each (drop (index + 1) given) >>= λ attributes. Ok (attribute ∷ attributes)) >>= finished twice done) bad

pub each-fault : (twice : Bool) (done : List Attribute) (given : List KindValues) (index : ℕ) (item : KindValues) (all : Result (List Attribute) ResultCode) (name : RdnSequence) (bad : Fault)
    → drop index given ≡ item ∷ drop (index + 1) given → all ≡ (read_each (drop index given) >>= finished twice done) → IsFaultOf (cause_of bad) (read_attribute item) → IsFaultOf (cause_of bad) (entry_from name all)
each-fault twice done given index item all name fault.NoMemory left is says = tt
each-fault twice done given index item all name (fault.Refused code) left is says = ap (entry_from name) (is ∙ each-stop twice done given index item code left says)

pub each-twice : (done : List Attribute) (given : List KindValues) → given ≡ [] → (read_each given >>= finished true done) ≡ Err code.AttributeOrValueExists
unfolding read_each
each-twice done given none = ap (λ given. read_each given >>= finished true done) none

pub each-done : (done : List Attribute) (given : List KindValues) → given ≡ [] → IsGoodAttributes done → (read_each given >>= finished false done) ≡ Ok done
unfolding read_each
each-done done given none good =
    ap (λ given. read_each given >>= finished false done) none
    ∙ ap without_twice (append-nil done)
    ∙ ap (λ b. if b then Err code.AttributeOrValueExists else Ok done) (twice-good done good)

-- an attribute of which values are given has values
pub attribute-filled : (item : KindValues) (attribute : Attribute) → lacks_values item ≡ false → read_attribute item ≡ Ok attribute → attribute.values ≢ []
attribute-filled item attribute some good = by (attr_of item.kind) good
  where
    inner : (kind : ℕ) (values : Result (List Keyed) ResultCode) → read_values kind item.values ≡ values → (values >>= λ values. Ok (record { kind = kind; values = values })) ≡ Ok attribute → attribute.values ≢ []
    inner kind (Ok values) is good =
        let same : record { kind = kind; values = values } ≡ attribute = cc in
        λ none. values-filled kind item.values values some is (ap (λ (attribute : Attribute). attribute.values) same ∙ none)
    inner kind (Err fault) is good = absurd cc

    by : (kind : Option ℕ) → read_known item.values kind ≡ Ok attribute → attribute.values ≢ []
    by None good = absurd cc
    by (Some kind) good = inner kind (read_values kind item.values) refl good
