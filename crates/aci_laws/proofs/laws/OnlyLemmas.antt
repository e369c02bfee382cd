-- What is read of a value whose strings are texts is good: components one behind the other, and sets.
use Rattle.std.proofs.Common.{◌≡◌, ℕ, List, [], ◌∷◌, refl}
use Rattle.std.specs.Prelude.{Option, Some, None}
use Rattle.gser_tree.specs.Lexemes.{Lexeme}
use Rattle.gser_tree.specs.looking.Looking.{Behind, component, flag, members_in}
use Rattle.gser_tree.specs.Reading.{Read, give, ◌>>=◌, expect, optional, present, required}
use Rattle.gser_tree.specs.looking.Shapes.{Shape}
use Rattle.gser_tree.specs.Writing.{text_of}
use Rattle.gser_tree.proofs.Theorems.{Gives, gives_both, gives_expected, gives_value, gives_weaker}
use Rattle.aci_item.specs.AciText.{sorted_set}
use Rattle.aci_laws.specs.GoodItems.{IsSetOf}
use Rattle.aci_item.specs.members.ItemParts.{flag_by, flagged}
use Rattle.aci_item.specs.Sets.{gather_into, put_member}
use Rattle.aci_laws.proofs.laws.SortedLemmas.{put_member-sorted, none_sorted, put_member-all}
use Rattle.aci_laws.proofs.laws.StringLemmas.{HasTexts, HaveTexts, component_texts, flag_texts, members_texts}

-- a reader gives what has the property, where the strings of the value are texts
abbrev pub OnlyTexts : {A : Type 0} → (A → Type 0) → (Shape → Read A) → Type 0
OnlyTexts P reader = (shape : Shape) → Gives (λ value. HasTexts shape → P value) (reader shape)

-- the members in braces, and what is read of them
pub gives_members : {B : Type 0} (Q : B → Type 0) (shape : Shape) (next : List Shape → Read B)
    → ((members : List Shape) → Gives (λ final. HaveTexts members → Q final) (next members))
    → Gives (λ final. HasTexts shape → Q final) (expect (members_in shape) >>= next)
gives_members Q shape next rest =
    gives_both (λ members. HasTexts shape → HaveTexts members) (λ final. HasTexts shape → Q final) (expect (members_in shape)) next
    (gives_expected (λ members. HasTexts shape → HaveTexts members) (members_in shape) (λ members is. members_texts shape members is))
    (λ members. gives_weaker (λ final. HaveTexts members → Q final) (λ final. (HasTexts shape → HaveTexts members) → HasTexts shape → Q final) (next members)
    (λ final h k texts. h (k texts)) (rest members))

-- a component, and what is read behind it
pub gives_next : {A B : Type 0} (P : A → Type 0) (Q : B → Type 0) (members : List Shape) (read : Read (Behind A)) (next : Behind A → Read B)
    → Gives (λ found. HaveTexts members → P found.value × HaveTexts found.rest) read
    → ((found : Behind A) → Gives (λ final. HaveTexts found.rest → P found.value → Q final) (next found))
    → Gives (λ final. HaveTexts members → Q final) (read >>= next)
gives_next P Q members read next first rest =
    gives_both (λ found. HaveTexts members → P found.value × HaveTexts found.rest) (λ final. HaveTexts members → Q final) read next first
    (λ found. gives_weaker (λ final. HaveTexts found.rest → P found.value → Q final)
    (λ final. (HaveTexts members → P found.value × HaveTexts found.rest) → HaveTexts members → Q final) (next found)
    (λ final h k texts. h (k texts).1 (k texts).0) (rest found))

pub gives_required_texts : {A : Type 0} (P : A → Type 0) (name : List ℕ) (reader : Shape → Read A) (members : List Shape) → OnlyTexts P reader
    → Gives (λ found. HaveTexts members → P found.value × HaveTexts found.rest) (required name reader members)
gives_required_texts P name reader members only =
    gives_both (λ (found : Behind Shape). HaveTexts members → HasTexts found.value × HaveTexts found.rest)
    (λ found. HaveTexts members → P found.value × HaveTexts found.rest) (expect (component name members)) _
    (gives_expected (λ (found : Behind Shape). HaveTexts members → HasTexts found.value × HaveTexts found.rest) (component name members)
    (λ found is. component_texts name members found is))
    (λ found. gives_both (λ value. HasTexts found.value → P value)
    (λ final. (HaveTexts members → HasTexts found.value × HaveTexts found.rest) → HaveTexts members → P final.value × HaveTexts final.rest)
    (reader found.value) (λ value. give (record { value = value; rest = found.rest })) (only found.value)
    (λ value. gives_value (λ final. (HasTexts found.value → P value) → (HaveTexts members → HasTexts found.value × HaveTexts found.rest) → HaveTexts members
    → P final.value × HaveTexts final.rest) (record { value = value; rest = found.rest })
    (λ h k texts. (h (k texts).0, (k texts).1))))

pub gives_optional_texts : {A : Type 0} (P : A → Type 0) (name : List ℕ) (absent : A) (reader : Shape → Read A) (members : List Shape) → P absent
    → OnlyTexts P reader → Gives (λ found. HaveTexts members → P found.value × HaveTexts found.rest) (optional name absent reader members)
gives_optional_texts P name absent reader members has only = inner (component name members) (λ found is. component_texts name members found is)
  where
    inner : (found : Option (Behind Shape)) → ((one : Behind Shape) → found ≡ Some one → HaveTexts members → HasTexts one.value × HaveTexts one.rest)
        → Gives (λ final. HaveTexts members → P final.value × HaveTexts final.rest) (present absent reader members found)
    inner None all =
        gives_value (λ final. HaveTexts members → P final.value × HaveTexts final.rest) (record { value = absent; rest = members }) (λ texts. (has, texts))
    inner (Some found) all =
        gives_both (λ value. HasTexts found.value → P value) (λ final. HaveTexts members → P final.value × HaveTexts final.rest) (reader found.value)
        (λ value. give (record { value = value; rest = found.rest })) (only found.value)
        (λ value. gives_value (λ final. (HasTexts found.value → P value) → HaveTexts members → P final.value × HaveTexts final.rest)
        (record { value = value; rest = found.rest }) (λ h texts. let both = all found refl texts in (h both.0, both.1)))

pub gives_flagged : (name : List ℕ) (members : List Shape)
    → Gives (λ found. HaveTexts members → Unit {0} × HaveTexts found.rest) (flagged name members)
gives_flagged name members =
    gives_value (λ found. HaveTexts members → Unit {0} × HaveTexts found.rest) (flag_by members (flag name members))
    (inner (flag name members) (λ rest is. flag_texts name members rest is))
  where
    inner : (found : Option (List Shape)) → ((rest : List Shape) → found ≡ Some rest → HaveTexts members → HaveTexts rest) → HaveTexts members
        → Unit {0} × HaveTexts (flag_by members found).rest
    inner None all texts = (tt, texts)
    inner (Some rest) all texts = (tt, all rest refl texts)

-- ---- sets

put_good : {A : Type 0} (print : A → List Lexeme) (P : A → Type 0) (value : A) (values : List A) → P value → IsSetOf print P values
    → IsSetOf print P (put_member (λ value. text_of (print value)) value values)
put_good print P value values has all = record {
  good = put_member-all (λ value. text_of (print value)) P value values has all.good;
  sorted = put_member-sorted (λ value. text_of (print value)) value values all.sorted;
}

set_of_none : {A : Type 0} (print : A → List Lexeme) (P : A → Type 0) → IsSetOf print P []
set_of_none print P = record { good = tt; sorted = none_sorted (λ value. text_of (print value)) }

pub no_members : {A : Type 0} (print : A → List Lexeme) (P : A → Type 0) → IsSetOf print P []
no_members print P = set_of_none print P

gathered_good : {A : Type 0} (print : A → List Lexeme) (P : A → Type 0) (reader : Shape → Read A) → OnlyTexts P reader → (members : List Shape) (seen : List A)
    → Gives (λ values. HaveTexts members → IsSetOf print P seen → IsSetOf print P values) (gather_into (put_member (λ value. text_of (print value))) reader seen members)
gathered_good print P reader only [] seen = gives_value (λ values. Unit {0} → IsSetOf print P seen → IsSetOf print P values) seen (λ texts all. all)
gathered_good print P reader only (shape ∷ members) seen =
    gives_both (λ value. HasTexts shape → P value) (λ values. HaveTexts (shape ∷ members) → IsSetOf print P seen → IsSetOf print P values) (reader shape)
    (λ value. gather_into (put_member (λ value. text_of (print value))) reader (put_member (λ value. text_of (print value)) value seen) members) (only shape)
    (λ value. gives_weaker (λ values. HaveTexts members → IsSetOf print P (put_member (λ value. text_of (print value)) value seen) → IsSetOf print P values)
    (λ values. (HasTexts shape → P value) → HaveTexts (shape ∷ members) → IsSetOf print P seen → IsSetOf print P values)
    (gather_into (put_member (λ value. text_of (print value))) reader (put_member (λ value. text_of (print value)) value seen) members)
    (λ values h has texts all. h texts.1 (put_good print P value seen (has texts.0) all))
    (gathered_good print P reader only members (put_member (λ value. text_of (print value)) value seen)))

pub set_is_good : {A : Type 0} (print : A → List Lexeme) (P : A → Type 0) (reader : Shape → Read A) → OnlyTexts P reader
    → OnlyTexts (IsSetOf print P) (sorted_set print reader)
set_is_good print P reader only shape =
    gives_members (IsSetOf print P) shape (gather_into (put_member (λ value. text_of (print value))) reader [])
    (λ members. gives_weaker (λ values. HaveTexts members → IsSetOf print P [] → IsSetOf print P values) (λ values. HaveTexts members → IsSetOf print P values)
    (gather_into (put_member (λ value. text_of (print value))) reader [] members) (λ values h texts. h texts (set_of_none print P)) (gathered_good print P reader only members []))
