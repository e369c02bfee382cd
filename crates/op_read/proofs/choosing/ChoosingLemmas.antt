-- What of an entry is chosen, text by text and attribute by attribute.
use Rattle.std.proofs.Common.{◌≡◌, inl, inr, ℕ, ◌<◌, Bool, false, List, [], ◌∷◌, refl, ap, map, filter, length, arith}
use Rattle.std.specs.Prelude.{flat_map, if◌then◌else◌}
use Rattle.std.specs.List.{list_any}
use Rattle.std.proofs.lemmas.Bool.{cases_Bool}
use Rattle.acdf_filters.specs.aci_item.declared.permission.Permission.TheVariants.{Read}
use Rattle.acdf_filters.specs.Asking.{Kind}
use Rattle.page_core.specs.read_model.Views.{Row}
use Rattle.page_core.specs.read_model.Choosing.{is_chosen_by, is_chosen, sent_attribute, sent_attributes}
use Rattle.op_read.specs.declared.choosing.Choice.{Choice}
use Rattle.op_read.specs.Choices.{chooses, sent_of}

-- attributes one by one
pub attributes-one : {A B : Type 0} (c d : A → Bool) (b : A → Bool) (f : A → B) → ((x : A) → c x ≡ d x) → (xs : List A) → flat_map (λ x. if c x then (if b x then f x ∷ [] else []) else []) xs ≡ map f (filter (λ x. if d x then b x else false) xs)
attributes-one c d b f same [] = refl
attributes-one c d b f same (x ∷ xs) = elim (cases_Bool (d x)) [
  | inl e ↦ elim (cases_Bool (b x)) [
    | inl g ↦ rw (same x, e, g) (ap (λ ys. f x ∷ ys) (attributes-one c d b f same xs))
    | inr g ↦ rw (same x, e, g) (attributes-one c d b f same xs)
  ]
  | inr e ↦ rw (same x, e) (attributes-one c d b f same xs)
]

pub roots-one : {A B : Type 0} (c : A → Bool) (f : A → B) (xs : List A) → flat_map (λ x. if c x then f x ∷ [] else []) xs ≡ map f (filter c xs)
roots-one c f [] = refl
roots-one c f (x ∷ xs) = elim (cases_Bool (c x)) [
  | inl e ↦ rw e (ap (λ ys. f x ∷ ys) (roots-one c f xs))
  | inr e ↦ rw e (roots-one c f xs)
]

-- a selection that is not empty
pub chosen-filled : (texts : List (List ℕ)) → 0 < length texts → (kind : ℕ) → list_any (is_chosen_by kind) texts ≡ is_chosen texts kind
chosen-filled [] h kind = absurd (omega arith)
chosen-filled (text ∷ texts) h kind = refl

-- the attributes that are sent
pub sent-attributes : (choices : List Choice) (texts : List (List ℕ)) (kinds_only : Bool) (row : Row) → ((kind : ℕ) → list_any (chooses kind) choices ≡ is_chosen texts kind) → flat_map (sent_of choices kinds_only row) row.entry.attributes ≡ sent_attributes texts kinds_only row
unfolding sent_attributes
sent-attributes choices texts kinds_only row same =
    attributes-one (λ attribute. list_any (chooses attribute.kind) choices) (λ attribute. is_chosen texts attribute.kind) (λ attribute. row.allows (Kind attribute.kind) Read)
    (sent_attribute kinds_only row) (λ attribute. same attribute.kind) row.entry.attributes
