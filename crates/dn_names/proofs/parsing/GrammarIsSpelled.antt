-- Each text of the outer grammar spells a name.
use Rattle.std.proofs.Common.{◌≡◌, ◌≢◌, ◌+◌, ◌*◌, ℕ, Bool, true, false, List, [], ◌∷◌, ◌++◌, inl, inr, refl, sym, ap, subst, ◌∙◌, arith, eqb-true}
use Rattle.std.specs.Prelude.{◌==◌, slice_index}
use Rattle.std.specs.Char.{digit_value}
use Rattle.std.specs.List.{AllByRecursion, concat}
use Rattle.std.proofs.lemmas.List.{append-nil}
use Rattle.std.proofs.lemmas.Bool.Decides.{nat_tests}
use Rattle.regular_text.specs.Grammar.{Grammar, Matches}
use Rattle.regular_text.specs.Grammar.Grammar.{One, Then, Many}
use Rattle.regular_text.proofs.Theorems.{Matches-AllByRecursion}
use Rattle.dn_names.specs.declared.classes.Class.{Class}
use Rattle.dn_names.specs.Classes.{class_of, is_space, is_plus, is_comma, is_plain, is_first, is_backslash}
use Rattle.dn_names.specs.NameGrammar.{spaces, kind, escape, first_piece, piece, value, pair, rdn, IsNameText}
use Rattle.dn_names.specs.Spelling.{WrittenPair, AreSpaces, IsPiece, SpellsOctets, SpellsValue, SpellsPair, IsJoined, SpellsRdn, SpellsName}
use Rattle.dn_names.proofs.name.ClassLemmas.{space_is, equals_is, plus_is, comma_is, backslash_is}

all_spaces : (text : List ℕ) → AllByRecursion (λ x. is_space (class_of x) ≡ true) text → AreSpaces text
all_spaces [] h = tt
all_spaces (x ∷ xs) h = (space_is x h.0, all_spaces xs h.1)

matches_spaces : (text : List ℕ) → Matches class_of spaces text → AreSpaces text
matches_spaces text m = all_spaces text (Matches-AllByRecursion class_of is_space spaces text (λ k e. e) m)

-- a backslash and what may stand behind it
matches_escape : (text : List ℕ) → Matches class_of (Then (One is_backslash) escape) text → (octet : ℕ) × IsPiece octet text × (text ≢ 32 ∷ []) × ((rest : List ℕ) → slice_index (text ++ rest) 0 ≡ 92)
matches_escape text (front, rest, e, (b, eb, tb), inl (x, ex, tx)) =
    let is : text ≡ 92 ∷ x ∷ [] = e ∙ ap (λ t. t ++ rest) eb ∙ ap (λ t. b ∷ t) ex ∙ ap (λ c. c ∷ x ∷ []) (backslash_is b tb) in
    (x, inr (inl (is, tx)), (λ bare. absurd cc), λ more. ap (λ t. slice_index (t ++ more) 0) is)
matches_escape text (front, rest, e, (b, eb, tb), inr (f, r, er, (h, eh, th), (l, el, tl))) =
    let is : text ≡ 92 ∷ h ∷ l ∷ [] =
    e ∙ ap (λ t. t ++ rest) eb ∙ ap (λ t. b ∷ t) (er ∙ ap (λ t. t ++ r) eh ∙ ap (λ t. h ∷ t) el) ∙ ap (λ c. c ∷ h ∷ l ∷ []) (backslash_is b tb) in
    (16 * digit_value h + digit_value l, inr (inr (h, l, is, th, tl, refl)), (λ bare. absurd cc), λ more. ap (λ t. slice_index (t ++ more) 0) is)

-- one more piece before others
piece_before : (octet : ℕ) (part rest : List ℕ) → IsPiece octet part → (part ≢ 32 ∷ []) → (octets : List ℕ) → SpellsOctets octets rest → (found : List ℕ) × SpellsOctets found (part ++ rest)
piece_before octet part rest p other octets spelled = (octet ∷ octets, (part, rest, refl, p, spelled, λ _. other))

plain_before : (x : ℕ) (part rest : List ℕ) → part ≡ x ∷ [] → is_plain (class_of x) ≡ true → (octets : List ℕ) → SpellsOctets octets rest → (found : List ℕ) × SpellsOctets found (part ++ rest)
plain_before x part rest e t (y ∷ ys) spelled = (x ∷ y ∷ ys, (part, rest, refl, inl (e, t), spelled, λ nil. absurd cc))
plain_before x part rest e t [] spelled =
    elim (x == 32) as (λ b. (x == 32) ≡ b → (found : List ℕ) × SpellsOctets found (part ++ rest)) [
      | true ↦ λ is. ([], subst (λ (s : List ℕ). AreSpaces (s ++ rest)) (sym e) (eqb-true x 32 is, spelled))
      | false ↦ λ is. piece_before x part rest (inl (e, t)) (λ bare. (let same : x ≡ 32 = cc in grind (arith, nat_tests, is, same))) [] spelled
    ] refl

matches_octets : (parts : List (List ℕ)) → AllByRecursion (Matches class_of piece) parts → (octets : List ℕ) × SpellsOctets octets (concat parts)
matches_octets [] all = ([], tt)
matches_octets (part ∷ parts) (inl (x, e, t), all) =
    let others = matches_octets parts all in plain_before x part (concat parts) e t others.0 others.1
matches_octets (part ∷ parts) (inr m, all) =
    let others = matches_octets parts all in
    let p = matches_escape part m in
    piece_before p.0 part (concat parts) p.1 p.2 others.0 others.1

first_plain : (x : ℕ) → is_first (class_of x) ≡ true → (is_plain (class_of x) ≡ true) × (x ≢ 32) × (x ≢ 35)
unfolding class_of
first_plain x h = (grind (arith, nat_tests), (λ e. grind (arith, nat_tests, e)), λ e. grind (arith, nat_tests, e))

-- the first piece of a value
matches_first : (front : List ℕ) → Matches class_of first_piece front → (octet : ℕ) × IsPiece octet front × (front ≢ 32 ∷ []) × ((rest : List ℕ) → (slice_index (front ++ rest) 0 ≢ 32) × (slice_index (front ++ rest) 0 ≢ 35))
matches_first front (inl (x, e, t)) =
    let f = first_plain x t in (
      x,
      inl (e, f.0),
      (λ bare. f.1 cc),
      λ rest. ((λ q. f.1 (ap (λ t. slice_index (t ++ rest) 0) (sym e) ∙ q)), λ q. f.2 (ap (λ t. slice_index (t ++ rest) 0) (sym e) ∙ q)),
    )
matches_first front (inr m) =
    let p = matches_escape front m in
    (p.0, p.1, p.2, λ rest. ((λ q. (let e = p.3 rest in omega (arith, e, q))), λ q. (let e = p.3 rest in omega (arith, e, q))))

zero_other : (slice_index [] 0 ≢ 32) × (slice_index [] 0 ≢ 35)
zero_other = ((λ e. omega (arith, e)), λ e. omega (arith, e))

matches_value : (text : List ℕ) → Matches class_of value text → (octets : List ℕ) × SpellsValue octets text
matches_value text (gap, rest, e, m, inl nil) = (
  [],
  (
    gap,
    rest,
    e,
    matches_spaces gap m,
    subst (λ (t : List ℕ). slice_index t 0 ≢ 32) (sym nil) zero_other.0,
    subst (λ (t : List ℕ). slice_index t 0 ≢ 35) (sym nil) zero_other.1,
    subst (λ (t : List ℕ). AreSpaces t) (sym nil) tt,
  ),
)
matches_value text (gap, rest, e, m, inr (front, more, e2, first, (parts, e3, all))) =
    let f = matches_first front first in
    let others = matches_octets parts all in (
      f.0 ∷ others.0,
      (
        gap,
        rest,
        e,
        matches_spaces gap m,
        subst (λ (t : List ℕ). slice_index t 0 ≢ 32) (sym e2) (f.3 more).0,
        subst (λ (t : List ℕ). slice_index t 0 ≢ 35) (sym e2) (f.3 more).1,
        (front, more, e2, f.1, subst (λ (t : List ℕ). SpellsOctets others.0 t) (sym e3) others.1, λ _. f.2),
      ),
    )

matches_pair : (text : List ℕ) → Matches class_of pair text → (p : WrittenPair) × SpellsPair p text
matches_pair text (before, r1, e1, m1, (kind, r2, e2, m2, (after, r3, e3, m3, (mark, value, e4, (x, ex, tx), m4)))) =
    let v = matches_value value m4 in
    let tail : r3 ≡ 61 ∷ value = e4 ∙ ap (λ t. t ++ value) ex ∙ ap (λ y. y ∷ value) (equals_is x tx) in (
      record { kind = kind; octets = v.0 },
      record {
        before = before;
        after = after;
        value = value;
        is_text = e1 ∙ ap (λ t. before ++ t) (e2 ∙ ap (λ t. kind ++ t) (e3 ∙ ap (λ t. after ++ t) tail));
        gap_before = matches_spaces before m1;
        is_kind = m2;
        gap_after = matches_spaces after m3;
        spells = v.1;
      },
    )

joined_more : {R : Type 0} (mark : ℕ) (test : Class → Bool) (g : Grammar Class) (P : R → List ℕ → Type 0) → ((x : ℕ) → test (class_of x) ≡ true → x ≡ mark) → ((text : List ℕ) → Matches class_of g text → (r : R) × P r text) → (parts : List (List ℕ)) → AllByRecursion (Matches class_of (Then (One test) g)) parts → (front : List ℕ) (r : R) → P r front → (rs : List R) × IsJoined mark P (r ∷ rs) (front ++ concat parts)
joined_more mark test g P is_mark read [] all front r p = ([], subst (λ (t : List ℕ). P r t) (sym (append-nil front)) p)
joined_more mark test g P is_mark read (part ∷ parts) ((o, body, e, (x, ex, tx), m), all) front r p =
    let s = read body m in
    let others = joined_more mark test g P is_mark read parts all body s.0 s.1 in
    let is : part ≡ mark ∷ body = e ∙ ap (λ t. t ++ body) ex ∙ ap (λ y. y ∷ body) (is_mark x tx) in
    (s.0 ∷ others.0, (front, body ++ concat parts, ap (λ t. front ++ (t ++ concat parts)) is, p, others.1))

-- texts with marks between them
matches_joined : {R : Type 0} (mark : ℕ) (test : Class → Bool) (g : Grammar Class) (P : R → List ℕ → Type 0) → ((x : ℕ) → test (class_of x) ≡ true → x ≡ mark) → ((text : List ℕ) → Matches class_of g text → (r : R) × P r text) → (text : List ℕ) → Matches class_of (Then g (Many (Then (One test) g))) text → (r : R) × (rs : List R) × IsJoined mark P (r ∷ rs) text
matches_joined mark test g P is_mark read text (front, rest, e, m, (parts, e2, all)) =
    let first = read front m in
    let others = joined_more mark test g P is_mark read parts all front first.0 first.1 in
    (first.0, others.0, subst (λ (t : List ℕ). IsJoined mark P (first.0 ∷ others.0) t) (sym (e ∙ ap (λ t. front ++ t) e2)) others.1)

matches_rdn : (text : List ℕ) → Matches class_of rdn text → (pairs : List WrittenPair) × SpellsRdn pairs text
matches_rdn text m = let w = matches_joined 43 is_plus pair SpellsPair plus_is matches_pair text m in (w.0 ∷ w.1, w.2)

-- each text of the outer grammar spells a name
pub spelled-IsNameText : (text : List ℕ) → IsNameText text → (rdns : List (List WrittenPair)) × SpellsName rdns text
unfolding IsNameText
spelled-IsNameText text (inl m) = ([], matches_spaces text m)
spelled-IsNameText text (inr m) = let w = matches_joined 44 is_comma rdn SpellsRdn comma_is matches_rdn text m in (w.0 ∷ w.1, w.2)
