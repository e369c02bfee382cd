-- What an entry has with a value put into it.
use Rattle.std.proofs.Common.{◌≡◌, ◌⊎◌, inl, inr, ℕ, ◌+◌, ◌==◌, Bool, true, false, ◌||◌, length, List, [], ◌∷◌, refl, sym, ap, ◌∙◌}
use Rattle.std.specs.Str.{bytes_eq}
use Rattle.std.proofs.lemmas.Bool.{cases_Bool, eqb-true, eqb-false}
use Rattle.std.proofs.lemmas.List.{length-append}
use Rattle.std.proofs.lemmas.List.Folds.{list_any-append}
use Rattle.std.proofs.lemmas.Slice.Eq.{bytes_eq-Decides}
use Rattle.dir_tree.specs.dn_names.name.Names.{Keyed}
use Rattle.dir_tree.specs.Entry.{EntryInformation, values_of, has_key}
use Rattle.dir_tree.specs.attributes.Changes.{with_value, put_value}
use Rattle.dir_tree.proofs.Theorems.{values_of-put_value, values_of-put_other}

-- one value of the type more, where no equal one was there
pub length-with_new : (kind : ℕ) (value : Keyed) (entry : EntryInformation) → has_key value.key (values_of kind entry.attributes) ≡ false
    → length (values_of kind (with_value kind value entry).attributes) ≡ length (values_of kind entry.attributes) + 1
length-with_new kind value entry e =
    rw e (ap length (values_of-put_value kind value entry.attributes) ∙ length-append (values_of kind entry.attributes) (value ∷ []))

-- a value has its own key
same_key : (key : List ℕ) → bytes_eq key key ≡ true
same_key key = (bytes_eq-Decides key key).1 refl

last_true : (any last : Bool) → last ≡ true → (any || (last || false)) ≡ true
last_true true last e = refl
last_true false true e = refl
last_true false false e = e

-- an equal value is there of the type, and of others where one was there
pub has_key-with_value : (kind other : ℕ) (value : Keyed) (entry : EntryInformation)
    → has_key value.key (values_of other (with_value kind value entry).attributes) ≡ ((kind == other) || has_key value.key (values_of other entry.attributes))
has_key-with_value kind other value entry = by (cases_Bool (kind == other)) (cases_Bool (has_key value.key (values_of kind entry.attributes)))
  where
    Goal : Type 0
    Goal = has_key value.key (values_of other (with_value kind value entry).attributes) ≡ ((kind == other) || has_key value.key (values_of other entry.attributes))

    by : (((kind == other) ≡ true) ⊎ ((kind == other) ≡ false)) → ((has_key value.key (values_of kind entry.attributes) ≡ true) ⊎ (has_key value.key (values_of kind entry.attributes) ≡ false)) → Goal
    by (inl e) (inl f) = rw (f, e) (ap (λ n. has_key value.key (values_of n entry.attributes)) (sym (eqb-true kind other e)) ∙ f)
    by (inl e) (inr f) =
        rw (f, e) (ap (λ n. has_key value.key (values_of n (put_value kind value entry.attributes))) (sym (eqb-true kind other e))
        ∙ ap (has_key value.key) (values_of-put_value kind value entry.attributes)
        ∙ list_any-append (λ one. bytes_eq value.key one.key) (values_of kind entry.attributes) (value ∷ [])
        ∙ last_true (has_key value.key (values_of kind entry.attributes)) (bytes_eq value.key value.key) (same_key value.key))
    by (inr e) (inl f) = rw (f, e) refl
    by (inr e) (inr f) = rw (f, e) (ap (has_key value.key) (values_of-put_other kind other value entry.attributes (λ same. eqb-false kind other e (sym same))))
