-- What is applied can be written as a record.
use Rattle.std.proofs.Common.{◌≡◌, ℕ, ◌==◌, ◌<◌, Bool, true, false, ◌||◌, List, [], ◌∷◌, length, if◌then◌else◌, Option, Some, None, Ok, Err, refl, sym, ap, subst, ◌∙◌, ◌⊎◌, inl, inr, arith}
use Rattle.std.specs.List.{AllByRecursion, list_any}
use Rattle.std.specs.Str.{bytes_eq}
use Rattle.std.proofs.lemmas.Bool.{cases_Bool, or_parts}
use Rattle.std.proofs.lemmas.Bool.Decides.{nat_tests}
use Rattle.std.proofs.lemmas.Slice.Eq.{bytes_eq-Decides}
use Rattle.dir_tree.specs.plain_values.Results.{◌>>=◌}
use Rattle.dir_tree.proofs.plain_values_proofs.Theorems.{both_given}
use Rattle.dir_tree.specs.schema_tables.Attributes.{attr_of}
use Rattle.dir_tree.specs.Entry.{Attribute, EntryInformation, kinds_of, is_match}
use Rattle.entry_changes.specs.Change.{Modification}
use Rattle.op_add_delete.specs.reading.NewEntries.{read_values, read_known, read_attribute, read_each, repeats, has_twice, without_twice, lacks_values, read_attributes, new_entry}
use Rattle.change_laws.specs.op_modify.ReadChanges.{asks_nothing, is_no_change, change_of, change_with, read_change, read_changes, read_each as read_each_change}
use Rattle.change_laws.specs.op_modify.ldap_msg.declared.operations.ResultCode.{ResultCode}
use Rattle.change_laws.specs.op_modify.ldap_msg.declared.kinds.KindValues.{KindValues}
use Rattle.change_laws.specs.op_modify.ldap_msg.declared.kinds.ModifyOperation.{ModifyOperation}
use Rattle.change_laws.specs.op_modify.ldap_msg.declared.kinds.ModifyOperation.TheVariants.{Add, Delete, Replace, Other}
use Rattle.change_laws.specs.op_modify.ldap_msg.declared.kinds.Change.{Change}
use Rattle.change_laws.specs.op_modify.ldap_msg.declared.kinds.AddRequest.{AddRequest}
use Rattle.change_laws.specs.op_modify.ldap_msg.declared.kinds.ModifyRequest.{ModifyRequest}
use Rattle.change_laws.specs.op_modify.ldap_msg.declared.kinds.Request.{Request}
use Rattle.change_laws.specs.op_modify.ldap_msg.declared.kinds.Request.TheVariants as request
use Rattle.change_laws.specs.op_modify.ldap_msg.declared.kinds.Update.TheVariants as update
use Rattle.change_records.specs.Laws.{WritesKnownTypes}
use Rattle.change_records.specs.Writable.{IsWritableAttribute, is_standard, IsWritableChange, IsWritableGiven, AreApart, IsWritable}
use Rattle.change_replay.specs.Applied.{name_in, with_changed_named, with_modified, applied_modify, with_new, with_named, applied_add, applied}
use Rattle.change_replay.specs.Laws.{HasOctets, ChangesOctets, IsOfOctets}

-- the type of an attribute that is read is known
known_by :
    (values : List (List ℕ)) (found : Option ℕ) (attribute : Attribute) → read_known values found ≡ Ok attribute
    → found ≡ Some attribute.kind
known_by values None attribute is = absurd cc
known_by values (Some kind) attribute is =
    let read = both_given (read_values kind values) (λ values. Ok (record { kind = kind; values = values })) attribute is in
    let same : record { kind = kind; values = read.0 } ≡ attribute = cc read.2 in
    ap (λ (attribute : Attribute). Some attribute.kind) same

known-read : (given : KindValues) (attribute : Attribute) → read_attribute given ≡ Ok attribute → attr_of given.kind ≡ Some attribute.kind
known-read given attribute is = known_by given.values (attr_of given.kind) attribute is

-- an operation that may be asked for is one of the three
standard : (operation : ModifyOperation) (values : List (List ℕ)) → asks_nothing operation values ≡ false → is_standard operation ≡ true
standard Add values asks = refl
standard Delete values asks = refl
standard Replace values asks = refl
standard (Other other) values asks = absurd cc

-- what isn't none is some
filled : (count : ℕ) → (count == 0) ≡ false → 0 < count
filled count is = grind (arith, nat_tests)

-- where one of two things is refused, what is left is the other
kept : {A : Type 0} (refuses : Bool) (fault : ResultCode) (found value : A) → (if refuses then Err fault else Ok found) ≡ Ok value → (refuses ≡ false) × (found ≡ value)
kept true fault found value is = absurd cc
kept false fault found value is = (refl, cc)

module _ (known : WritesKnownTypes) where
  -- ---- modifies
  IsWritableAttribute-read :
      (given : KindValues) (attribute : Attribute) → read_attribute given ≡ Ok attribute → HasOctets given → IsWritableAttribute given
  IsWritableAttribute-read given attribute is octets =
      record { kind = (known given.kind attribute.kind (known-read given attribute is)).kind; values = octets }

  changes-read :
      (given : List Change) (changes : List Modification) → list_any is_no_change given ≡ false → read_each_change given ≡ Ok changes
      → AllByRecursion ChangesOctets given → AllByRecursion IsWritableChange given
  unfolding read_each_change
  changes-read [] changes none is octets = tt
  changes-read (one ∷ rest) changes none is octets =
      let parts = or_parts (is_no_change one) (list_any is_no_change rest) none in
      let first = both_given (read_change one) (λ change. read_each_change rest >>= λ changes. Ok (change ∷ changes)) changes is in
      let later = both_given (read_each_change rest) (λ changes. Ok (first.0 ∷ changes)) changes first.2 in
      let body = both_given (read_attribute one.body) (change_with (change_of one.operation)) first.0 first.1 in (
        record { operation = standard one.operation one.body.values parts.0; body = IsWritableAttribute-read one.body body.0 body.1 octets.0 },
        changes-read rest later.0 parts.1 later.1 octets.1,
      )

  changes_where :
      (refuses : Bool) (given : List Change) (changes : List Modification) (fault : ResultCode) → list_any is_no_change given ≡ refuses
      → (if refuses then Err fault else read_each_change given) ≡ Ok changes → AllByRecursion ChangesOctets given
      → AllByRecursion IsWritableChange given
  changes_where true given changes fault none is octets = absurd cc
  changes_where false given changes fault none is octets = changes-read given changes none is octets

  writable-changes :
      (given : List Change) (changes : List Modification) → read_changes given ≡ Ok changes → AllByRecursion ChangesOctets given
      → AllByRecursion IsWritableChange given
  unfolding read_changes
  writable-changes given changes is octets = changes_where (list_any is_no_change given) given changes _ refl is octets

  writable-modify :
      (entries left : List EntryInformation) (modify : ModifyRequest) → applied_modify entries modify ≡ Ok left
      → AllByRecursion ChangesOctets modify.changes → AllByRecursion IsWritableChange modify.changes
  unfolding applied_modify
  writable-modify entries left modify is octets =
      let name = both_given (name_in modify.name) (with_modified entries modify.changes) left is in
      let read = both_given (read_changes modify.changes) (with_changed_named entries name.0) left name.2 in
      writable-changes modify.changes read.0 read.1 octets

  -- ---- adds
  given-read :
      (given : List KindValues) (attributes : List Attribute) → list_any lacks_values given ≡ false → read_each given ≡ Ok attributes
      → AllByRecursion HasOctets given → AllByRecursion IsWritableGiven given
  unfolding read_each
  given-read [] attributes some is octets = tt
  given-read (one ∷ rest) attributes some is octets =
      let parts = or_parts (lacks_values one) (list_any lacks_values rest) some in
      let first = both_given (read_attribute one) (λ attribute. read_each rest >>= λ attributes. Ok (attribute ∷ attributes)) attributes is in
      let later = both_given (read_each rest) (λ attributes. Ok (first.0 ∷ attributes)) attributes first.2 in (
        record {
          body = IsWritableAttribute-read one first.0 first.1 octets.0;
          filled = filled (length one.values) parts.0;
          other = (known one.kind first.0.kind (known-read one first.0 first.1)).other;
        },
        given-read rest later.0 parts.1 later.1 octets.1,
      )

-- a number is not apart from itself
never_apart : (one other : ℕ) → one ≡ other → (one == other) ≡ false → ⊥
never_apart one other same apart = grind (arith, nat_tests)

-- two texts that name other types are apart
other_text :
    (one other : KindValues) (first second : Attribute) → attr_of one.kind ≡ Some first.kind → attr_of other.kind ≡ Some second.kind
    → (first.kind == second.kind) ≡ false → bytes_eq other.kind one.kind ≡ false
other_text one other first second one_is other_is apart = by (cases_Bool (bytes_eq other.kind one.kind))
  where
    by : ((bytes_eq other.kind one.kind ≡ true) ⊎ (bytes_eq other.kind one.kind ≡ false)) → bytes_eq other.kind one.kind ≡ false
    by (inr is) = is
    by (inl is) =
        let texts : other.kind ≡ one.kind = (bytes_eq-Decides other.kind one.kind).0 is in
        let kinds : Some second.kind ≡ Some first.kind = sym other_is ∙ ap attr_of texts ∙ one_is in
        let same : first.kind ≡ second.kind = cc in
        absurd (never_apart first.kind second.kind same apart)

-- so neighbours are
apart-read :
    (given : List KindValues) (attributes : List Attribute) → read_each given ≡ Ok attributes
    → repeats (λ one other. one == other) (kinds_of attributes) ≡ false → AreApart given
unfolding read_each repeats
apart-read [] attributes is once = tt
apart-read (one ∷ []) attributes is once = tt
apart-read (one ∷ other ∷ rest) attributes is once =
    let first = both_given (read_attribute one) (λ attribute. read_each (other ∷ rest) >>= λ attributes. Ok (attribute ∷ attributes)) attributes is in
    let later = both_given (read_each (other ∷ rest)) (λ attributes. Ok (first.0 ∷ attributes)) attributes first.2 in
    let second = both_given (read_attribute other) (λ attribute. read_each rest >>= λ attributes. Ok (attribute ∷ attributes)) later.0 later.1 in
    let last = both_given (read_each rest) (λ attributes. Ok (second.0 ∷ attributes)) later.0 second.2 in
    let whole : first.0 ∷ later.0 ≡ attributes = cc later.2 in
    let behind : second.0 ∷ last.0 ≡ later.0 = cc last.2 in
    let here = subst (λ attributes. repeats (λ one other. one == other) (kinds_of attributes) ≡ false) (sym whole) once in
    let parts = or_parts _ _ here in
    let there = subst (λ attributes. list_any (λ other. first.0.kind == other) (kinds_of attributes) ≡ false) (sym behind) parts.0 in
    let apart = or_parts (first.0.kind == second.0.kind) _ there in (
      other_text one other first.0 second.0 (known-read one first.0 first.1) (known-read other second.0 second.1) apart.0,
      apart-read (other ∷ rest) later.0 later.1 parts.1,
    )

module _ (known : WritesKnownTypes) where
  abbrev IsWritableAdd : List KindValues → Type 0
  IsWritableAdd given = AllByRecursion IsWritableGiven given × AreApart given

  given_where :
      (lacks : Bool) (given : List KindValues) (attributes : List Attribute) (fault : ResultCode) → list_any lacks_values given ≡ lacks
      → (if lacks then Err fault else (read_each given >>= without_twice)) ≡ Ok attributes → AllByRecursion HasOctets given
      → IsWritableAdd given
  given_where true given attributes fault some is octets = absurd cc
  given_where false given attributes fault some is octets =
      let read = both_given (read_each given) without_twice attributes is in
      let once = kept (has_twice read.0) _ read.0 attributes read.2 in
      let parts = or_parts (repeats (λ one other. one == other) (kinds_of read.0)) (list_any (λ attribute. repeats is_match attribute.values) read.0) once.0 in
      (given-read known given read.0 some read.1 octets, apart-read given read.0 read.1 parts.0)

  writable-given :
      (given : List KindValues) (attributes : List Attribute) → read_attributes given ≡ Ok attributes → AllByRecursion HasOctets given
      → IsWritableAdd given
  unfolding read_attributes
  writable-given given attributes is octets = given_where (list_any lacks_values given) given attributes _ refl is octets

  writable-add :
      (entries left : List EntryInformation) (add : AddRequest) → applied_add entries add ≡ Ok left
      → AllByRecursion HasOctets add.attributes → IsWritableAdd add.attributes
  unfolding applied_add
  writable-add entries left add is octets =
      let name = both_given (name_in add.name) (with_named entries add.attributes) left is in
      let read = both_given (read_attributes add.attributes) (λ attributes. with_new entries (new_entry name.0 attributes)) left name.2 in
      writable-given add.attributes read.0 read.1 octets

  -- ---- any request
  pub writable-applied :
      (entries left : List EntryInformation) (change : Request) → applied entries change ≡ Ok left → IsOfOctets change → IsWritable change
  writable-applied entries left (request.Update (update.Modify modify)) is octets = (octets.0, writable-modify known entries left modify is octets.1)
  writable-applied entries left (request.Update (update.Add add)) is octets =
      let both = writable-add entries left add is octets.1 in
      (octets.0, both.0, both.1)
  writable-applied entries left (request.Update (update.Delete delete)) is octets = octets
  writable-applied entries left (request.Update (update.Rename rename)) is octets = octets
  writable-applied entries left other is octets = absurd cc
