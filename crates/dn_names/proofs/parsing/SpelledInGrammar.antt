-- What spells a name is in the outer grammar.
use Rattle.std.proofs.Common.{◌≡◌, ◌≢◌, ℕ, Bool, true, List, [], ◌∷◌, ◌++◌, inl, inr, refl, sym, ap, subst, ◌∙◌, arith}
use Rattle.std.specs.Prelude.{slice_index}
use Rattle.std.proofs.lemmas.List.{append-nil}
use Rattle.std.proofs.lemmas.Bool.Decides.{nat_tests}
use Rattle.regular_text.specs.Grammar.{Grammar, Matches}
use Rattle.regular_text.specs.Grammar.Grammar.{Nothing, One, Either, Then, Many}
use Rattle.dn_names.specs.declared.classes.Class.{Class}
use Rattle.dn_names.specs.Classes.{class_of, is_space, is_plus, is_comma, is_plain, is_first, is_backslash, is_equals}
use Rattle.dn_names.specs.NameGrammar.{spaces, escape, first_piece, piece, pair, rdn, IsNameText}
use Rattle.dn_names.specs.Spelling.{WrittenPair, AreSpaces, IsPiece, SpellsOctets, SpellsPair, IsJoined, SpellsRdn, SpellsName}

-- one more text before any number of them
many_cons : (g : Grammar Class) (front rest : List ℕ) → Matches class_of g front → Matches class_of (Many g) rest → Matches class_of (Many g) (front ++ rest)
many_cons g front rest m (parts, e, all) = (front ∷ parts, ap (λ t. front ++ t) e, (m, all))

space_matches : (x : ℕ) → x ≡ 32 → is_space (class_of x) ≡ true
unfolding class_of
space_matches x e = rw e

space_plain : (x : ℕ) → x ≡ 32 → is_plain (class_of x) ≡ true
unfolding class_of
space_plain x e = rw e

spaces_match : (text : List ℕ) → AreSpaces text → Matches class_of spaces text
spaces_match [] h = ([], refl, tt)
spaces_match (x ∷ xs) h = many_cons (One is_space) (x ∷ []) xs (x, refl, space_matches x h.0) (spaces_match xs h.1)

backslash_matches : Matches class_of (One is_backslash) (92 ∷ [])
unfolding class_of
backslash_matches = (92, refl, refl)

escape_matches : (octet : ℕ) (text : List ℕ) → IsPiece octet text → (text ≡ octet ∷ [] → ⊥) → Matches class_of (Then (One is_backslash) escape) text
escape_matches octet text (inl p) bare = absurd (bare p.0)
escape_matches octet text (inr (inl p)) bare = (92 ∷ [], octet ∷ [], p.0, backslash_matches, inl (octet, refl, p.1))
escape_matches octet text (inr (inr p)) bare =
    (92 ∷ [], p.0 ∷ p.1 ∷ [], p.2, backslash_matches, inr (p.0 ∷ [], p.1 ∷ [], refl, (p.0, refl, p.3), (p.1, refl, p.4)))

piece_matches : (octet : ℕ) (text : List ℕ) → IsPiece octet text → Matches class_of piece text
piece_matches octet text (inl p) = inl (octet, p.0, p.1)
piece_matches octet text (inr (inl p)) = inr (escape_matches octet text (inr (inl p)) (λ bare. absurd cc))
piece_matches octet text (inr (inr p)) = inr (escape_matches octet text (inr (inr p)) (λ bare. absurd cc))

octets_match : (octets text : List ℕ) → SpellsOctets octets text → Matches class_of (Many piece) text
octets_match [] [] h = ([], refl, tt)
octets_match [] (x ∷ xs) h = many_cons piece (x ∷ []) xs (inl (x, refl, space_plain x h.0)) (octets_match [] xs h.1)
octets_match (octet ∷ octets) text (front, rest, e, p, more, last) =
    subst (λ (t : List ℕ). Matches class_of (Many piece) t) (sym e)
    (many_cons piece front rest (piece_matches octet front p) (octets_match octets rest more))

plain_first : (x : ℕ) → is_plain (class_of x) ≡ true → x ≢ 32 → x ≢ 35 → is_first (class_of x) ≡ true
unfolding class_of
plain_first x p n m = grind (arith, nat_tests, n, m)

first_matches : (octet : ℕ) (front : List ℕ) → IsPiece octet front → (rest : List ℕ) → slice_index (front ++ rest) 0 ≢ 32 → slice_index (front ++ rest) 0 ≢ 35 → Matches class_of first_piece front
first_matches octet front (inl p) rest n m =
    inl (octet, p.0, plain_first octet p.1 (subst (λ (t : List ℕ). slice_index (t ++ rest) 0 ≢ 32) p.0 n) (subst (λ (t : List ℕ). slice_index (t ++ rest) 0 ≢ 35) p.0 m))
first_matches octet front (inr (inl p)) rest n m = inr (escape_matches octet front (inr (inl p)) (λ bare. absurd cc))
first_matches octet front (inr (inr p)) rest n m = inr (escape_matches octet front (inr (inr p)) (λ bare. absurd cc))

-- what spells a value without the spaces before it
value_matches : (octets rest : List ℕ) → slice_index rest 0 ≢ 32 → slice_index rest 0 ≢ 35 → SpellsOctets octets rest → Matches class_of (Either Nothing (Then first_piece (Many piece))) rest
value_matches [] [] n m h = inl refl
value_matches [] (x ∷ xs) n m h = absurd (n h.0)
value_matches (octet ∷ octets) rest n m (front, more, e, p, others, last) =
    inr (front, more, e, first_matches octet front p more (subst (λ (t : List ℕ). slice_index t 0 ≢ 32) e n) (subst (λ (t : List ℕ). slice_index t 0 ≢ 35) e m), octets_match octets more others)

equals_matches : Matches class_of (One is_equals) (61 ∷ [])
unfolding class_of
equals_matches = (61, refl, refl)

pair_matches : (p : WrittenPair) (text : List ℕ) → SpellsPair p text → Matches class_of pair text
pair_matches p text h =
    let v = h.spells in (
      h.before,
      p.kind ++ (h.after ++ 61 ∷ h.value),
      h.is_text,
      spaces_match h.before h.gap_before,
      (
        p.kind,
        h.after ++ 61 ∷ h.value,
        refl,
        h.is_kind,
        (
          h.after,
          61 ∷ h.value,
          refl,
          spaces_match h.after h.gap_after,
          (
            61 ∷ [],
            h.value,
            refl,
            equals_matches,
            (v.0, v.1, v.2, spaces_match v.0 v.3, value_matches p.octets v.1 v.4 v.5 v.6),
          ),
        ),
      ),
    )

joined_matches : {R : Type 0} (mark : ℕ) (test : Class → Bool) (g : Grammar Class) (P : R → List ℕ → Type 0) → test (class_of mark) ≡ true → ((r : R) (text : List ℕ) → P r text → Matches class_of g text) → (rs : List R) (text : List ℕ) → IsJoined mark P rs text → Matches class_of (Then g (Many (Then (One test) g))) text
joined_matches mark test g P is_mark each [] text j = absurd j
joined_matches mark test g P is_mark each (r ∷ []) text j = (text, [], sym (append-nil text), each r text j, ([], refl, tt))
joined_matches mark test g P is_mark each (r ∷ s ∷ rs) text (front, rest, e, p, j) =
    let w = joined_matches mark test g P is_mark each (s ∷ rs) rest j in (
      front,
      mark ∷ rest,
      e,
      each r front p,
      (
        (mark ∷ w.0) ∷ w.4.0,
        ap (λ t. mark ∷ t) (w.2 ∙ ap (λ t. w.0 ++ t) w.4.1),
        ((mark ∷ [], w.0, refl, (mark, refl, is_mark), w.3), w.4.2),
      ),
    )

plus_class : is_plus (class_of 43) ≡ true
unfolding class_of
plus_class = refl

comma_class : is_comma (class_of 44) ≡ true
unfolding class_of
comma_class = refl

-- what spells a name is a text of the outer grammar
pub IsNameText-spelled : (rdns : List (List WrittenPair)) (text : List ℕ) → SpellsName rdns text → IsNameText text
unfolding IsNameText
IsNameText-spelled [] text h = inl (spaces_match text h)
IsNameText-spelled (first ∷ rdns) text h =
    inr (joined_matches 44 is_comma rdn SpellsRdn comma_class (λ r t p. joined_matches 43 is_plus pair SpellsPair plus_class pair_matches r t p) (first ∷ rdns) text h)
