-- Members that are put at their places as they come are what all of them are, sorted.
use Rattle.std.proofs.Common.{◌≡◌, ℕ, List, [], ◌∷◌, ◌++◌, refl, sym, ap, ◌∙◌}
use Rattle.std.specs.Prelude.{Option, Some, None, option_and_then}
use Rattle.gser_tree.specs.Lexemes.{Lexeme}
use Rattle.gser_tree.specs.looking.Looking.{members_in}
use Rattle.gser_tree.specs.Reading.{Found, Read, give, ◌>>=◌, expect, gather}
use Rattle.gser_tree.specs.looking.Shapes.{Shape}
use Rattle.gser_tree.specs.Writing.{text_of}
use Rattle.subtree_spec.specs.Parts.{set_of}
use Rattle.aci_item.specs.Sets.{put_member, gather_into}
use Rattle.aci_item.specs.AciText.{sorted_set}
use Rattle.aci_laws.specs.MembersSorted.{put_members, sorted}

-- a set and one more member
put_members-push : {A : Type 0} (text : A → List ℕ) (seen values : List A) (value : A)
    → put_members text seen (values ++ value ∷ []) ≡ put_member text value (put_members text seen values)
put_members-push text seen [] value = refl
put_members-push text seen (first ∷ values) value = put_members-push text (put_member text first seen) values value

-- members that are gathered and then put together are put together as they come
pub gathered_into : {A S : Type 0} (add : A → S → S) (whole : List A → S) (reader : Shape → Read A)
    → ((seen : List A) (value : A) → whole (seen ++ value ∷ []) ≡ add value (whole seen))
    → (seen : List A) (shapes : List Shape) (bad : Option ℕ)
    → (gather reader seen shapes >>= λ values. give (whole values)) bad ≡ gather_into add reader (whole seen) shapes bad
gathered_into add whole reader more seen [] bad = refl
gathered_into {A} {S} add whole reader more seen (shape ∷ shapes) bad =
    inner (reader shape bad) (λ found. gathered_into add whole reader more (seen ++ found.value ∷ []) shapes found.bad)
  where
    inner : (found : Option (Found A))
        → ((found : Found A) → (gather reader (seen ++ found.value ∷ []) shapes >>= λ values. give (whole values)) found.bad
        ≡ gather_into add reader (whole (seen ++ found.value ∷ [])) shapes found.bad)
        → option_and_then (λ (f : Found (List A)). give (whole f.value) f.bad)
        (option_and_then (λ (f : Found A). gather reader (seen ++ f.value ∷ []) shapes f.bad) found)
        ≡ option_and_then (λ (f : Found A). gather_into add reader (add f.value (whole seen)) shapes f.bad) found
    inner None rest = refl
    inner (Some found) rest = rest found ∙ ap (λ (s : S). gather_into add reader s shapes found.bad) (more seen found.value)

-- a set is what its members are in their order, sorted
pub sorted_set-sorted : {A : Type 0} (print : A → List Lexeme) (reader : Shape → Read A) (shape : Shape) (bad : Option ℕ)
    → sorted_set print reader shape bad ≡ (set_of reader shape >>= λ values. give (sorted (λ value. text_of (print value)) values)) bad
sorted_set-sorted {A} print reader shape bad = inner (members_in shape)
  where
    inner : (found : Option (List Shape))
        → (expect found >>= gather_into (put_member (λ value. text_of (print value))) reader []) bad
        ≡ (expect found >>= gather reader [] >>= λ (values : List A). give (sorted (λ value. text_of (print value)) values)) bad
    inner None = refl
    inner (Some shapes) = sym (gathered_into (put_member (λ value. text_of (print value))) (sorted (λ value. text_of (print value))) reader
        (λ seen value. put_members-push (λ value. text_of (print value)) [] seen value) [] shapes bad)
