-- What is printed of texts is a text.
use Rattle.std.proofs.Common.{◌≡◌, ℕ, ◌<◌, ◌≤◌, Bool, true, false, cond, List, [], ◌∷◌, ◌++◌, reverse, Option, Some, None, refl, sym, ap, subst, ◌∙◌, arith, inl, inr, ◌⊎◌}
use Rattle.std.specs.Prelude.{◌==◌, ◌&&◌, ◌+◌, ◌/◌, ◌%◌, nat_lt, if◌then◌else◌, IsUtf8}
use Rattle.std.specs.List.{AllByRecursion, list_all}
use Rattle.std.specs.Option.{option_map_or}
use Rattle.std.specs.Str.{is_utf8}
use Rattle.std.proofs.lemmas.List.{append-nil}
use Rattle.std.proofs.lemmas.Bool.{cond-false, and_parts}
use Rattle.std.proofs.lemmas.Bool.Decides.{nat_tests}
use Rattle.std.proofs.lemmas.Str.{IsUtf8-append, IsUtf8-nil, IsUtf8-from_ascii, IsUtf8-from_is_utf8, encode_ascii}
use Rattle.std.proofs.lemmas.Str.Ascii.{IsAscii-nil, IsAscii-cons}
use Rattle.std.proofs.Math.Utf8.{encode, encodes, scalar, scalars}
use Rattle.schema_tables.specs.Attributes.{Attribute, attributes, attribute_at, name_of}
use Rattle.dn_names.specs.declared.printing.Shown.TheVariants.{Octets}
use Rattle.dn_names.specs.Classes.{class_of}
use Rattle.dn_names.specs.name.Names.{TypeAndValue, RdnSequence, IsTextRdn, IsTextName}
use Rattle.dn_names.specs.Printing.{is_escaped, print_octet, is_empty, print_from, print_value, join_from, print_pair, print_rdn, shown_of, print_by, print_name}
use Rattle.dn_names.proofs.resolve.NamingTextLemmas.{ascii_all, below}
use Rattle.base_laws.proofs.Theorems.{passes_at}

all_cond : (b : Bool) (xs ys : List ℕ) → AllByRecursion (λ x. 128 ≤ x) xs → AllByRecursion (λ x. 128 ≤ x) ys → AllByRecursion (λ x. 128 ≤ x) (cond b xs ys)
all_cond true xs ys a b = a
all_cond false xs ys a b = b

-- the bytes of a character beyond ASCII are beyond ASCII
high_bytes : (c : ℕ) → 128 ≤ c → AllByRecursion (λ x. 128 ≤ x) (encode c)
unfolding encode
high_bytes c h =
    all_cond (nat_lt c 128) (c ∷ []) _ (h, tt)
    (all_cond (nat_lt c 2048) ((192 + c / 64) ∷ (128 + c % 64) ∷ []) _ (omega arith, (omega arith, tt))
    (all_cond (nat_lt c 65536) ((224 + c / 4096) ∷ (128 + (c / 64) % 64) ∷ (128 + c % 64) ∷ []) ((240 + c / 262144) ∷ (128 + (c / 4096) % 64) ∷ (128 + (c / 64) % 64) ∷ (128 + c % 64) ∷ [])
    (omega arith, (omega arith, (omega arith, tt))) (omega arith, (omega arith, (omega arith, (omega arith, tt))))))

high_octet : (first last : Bool) (x : ℕ) → 128 ≤ x → print_octet first last x ≡ x ∷ []
unfolding class_of
high_octet first last x h =
    cond-false (is_escaped first last (class_of x)) (92 ∷ x ∷ []) (if x == 0 then 92 ∷ 48 ∷ 48 ∷ [] else x ∷ []) (grind (arith, nat_tests))
    ∙ cond-false (x == 0) (92 ∷ 48 ∷ 48 ∷ []) (x ∷ []) (grind (arith, nat_tests))

-- such bytes are printed as they are
high_print : (front rest : List ℕ) (first : Bool) → AllByRecursion (λ x. 128 ≤ x) front → (next : Bool) × (print_from first (front ++ rest) ≡ front ++ print_from next rest)
high_print [] rest first h = (first, refl)
high_print (x ∷ front) rest first h =
    let more = high_print front rest false h.1 in
    (more.0, ap (λ t. t ++ print_from false (front ++ rest)) (high_octet first (is_empty (front ++ rest)) x h.0) ∙ ap (λ t. x ∷ t) more.1)

low_octet : (first last : Bool) (x : ℕ) → x < 128 → IsUtf8 (print_octet first last x)
low_octet first last x h =
    choose (is_escaped first last (class_of x)) (IsUtf8-from_ascii (92 ∷ x ∷ []) (IsAscii-cons 92 (x ∷ []) (omega arith) (IsAscii-cons x [] h IsAscii-nil)))
    (choose (x == 0) (IsUtf8-from_ascii (92 ∷ 48 ∷ 48 ∷ []) (IsAscii-cons 92 (48 ∷ 48 ∷ []) (omega arith) (IsAscii-cons 48 (48 ∷ []) (omega arith) (IsAscii-cons 48 [] (omega arith) IsAscii-nil))))
    (IsUtf8-from_ascii (x ∷ []) (IsAscii-cons x [] h IsAscii-nil)))
  where
    choose : (b : Bool) {xs ys : List ℕ} → IsUtf8 xs → IsUtf8 ys → IsUtf8 (if b then xs else ys)
    choose true a c = a
    choose false a c = c

text_of_char : (c : ℕ) → scalar c ≡ true → IsUtf8 (encode c)
text_of_char c h = (c ∷ [], (ap (λ b. b && true) h, append-nil (encode c)))

low_or_high : (c : ℕ) → (c < 128) ⊎ (128 ≤ c)
low_or_high c = elim (nat_lt c 128) as (λ b. nat_lt c 128 ≡ b → (c < 128) ⊎ (128 ≤ c)) [
  | true ↦ λ e. inl (grind (arith, nat_tests))
  | false ↦ λ e. inr (grind (arith, nat_tests))
] refl

print_chars : (cs : List ℕ) (first : Bool) → scalars cs ≡ true → IsUtf8 (print_from first (encodes cs))
print_chars [] first h = IsUtf8-nil
print_chars (c ∷ cs) first h =
    let both = and_parts (scalar c) (scalars cs) h in
    elim (low_or_high c) [
      | inl low ↦ subst (λ (t : List ℕ). IsUtf8 (print_from first (t ++ encodes cs))) (sym (encode_ascii c low))
          (IsUtf8-append (print_octet first (is_empty (encodes cs)) c) (print_from false (encodes cs)) (low_octet first (is_empty (encodes cs)) c low) (print_chars cs false both.1))
      | inr high ↦ (let w = high_print (encode c) (encodes cs) first (high_bytes c high) in
          subst (λ (t : List ℕ). IsUtf8 t) (sym w.1) (IsUtf8-append (encode c) (print_from w.0 (encodes cs)) (text_of_char c both.0) (print_chars cs w.0 both.1)))
    ]

value_text : (octets : List ℕ) → is_utf8 octets ≡ true → IsUtf8 (print_value octets)
unfolding print_value
value_text octets h =
    let text = IsUtf8-from_is_utf8 octets h in
    subst (λ (t : List ℕ). IsUtf8 (print_from true t)) text.1.1 (print_chars text.0 true text.1.0)

ascii_names : list_all (λ row. list_all (λ x. nat_lt x 128) row.name) attributes ≡ true
unfolding attributes
ascii_names = refl

name_at : (number : ℕ) (row : Option Attribute) → attribute_at number ≡ row → IsUtf8 (option_map_or (λ r. r.name) row [])
name_at number None e = IsUtf8-nil
name_at number (Some row) e =
    IsUtf8-from_ascii row.name (ascii_all (λ x. nat_lt x 128) below row.name (passes_at (λ r. list_all (λ x. nat_lt x 128) r.name) attributes number row ascii_names e))

pair_text : (pair : TypeAndValue) → is_utf8 pair.value.octets ≡ true → IsUtf8 (print_pair (shown_of Octets) pair)
pair_text pair h =
    IsUtf8-append (name_of pair.kind) (61 ∷ print_value pair.value.octets) (name_at pair.kind (attribute_at pair.kind) refl)
    (IsUtf8-append (61 ∷ []) (print_value pair.value.octets) (IsUtf8-from_ascii (61 ∷ []) (IsAscii-cons 61 [] (omega arith) IsAscii-nil)) (value_text pair.value.octets h))

join_text : {A : Type 0} (mark : ℕ) (show : A → List ℕ) (P : A → Type 0) → mark < 128 → ((x : A) → P x → IsUtf8 (show x)) → (first : Bool) (xs : List A) → AllByRecursion P xs → IsUtf8 (join_from mark show first xs)
join_text mark show P low each first [] h = IsUtf8-nil
join_text mark show P low each first (x ∷ xs) h =
    IsUtf8-append (if first then [] else mark ∷ []) (show x ++ join_from mark show false xs) (front first)
    (IsUtf8-append (show x) (join_from mark show false xs) (each x h.0) (join_text mark show P low each false xs h.1))
  where
    front : (b : Bool) → IsUtf8 (if b then [] else mark ∷ [])
    front true = IsUtf8-nil
    front false = IsUtf8-from_ascii (mark ∷ []) (IsAscii-cons mark [] low IsAscii-nil)

-- the printed form of a name of texts is a text
pub IsUtf8-print_name : (name : RdnSequence) → IsTextName (reverse name) → IsUtf8 (print_name name)
unfolding print_name print_by
IsUtf8-print_name name h =
    join_text 44 (print_rdn (shown_of Octets)) IsTextRdn (omega arith)
    (λ rdn t. join_text 43 (print_pair (shown_of Octets)) (λ p. is_utf8 p.value.octets ≡ true) (omega arith) pair_text true rdn t) true (reverse name) h
