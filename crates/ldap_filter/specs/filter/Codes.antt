-- A code for filters, by which a proof tells them apart: a tree of numbers that gives the filter back.
use Rattle.std.specs.Prelude.{◌≡◌, ℕ, zero, suc, List, [], ◌∷◌, Option, Some, None, refl}
use Rattle.std.proofs.Common.{sym, ap, ◌∙◌}
use base.Stored.{Gv, gnil, gnum, gcons, num, Coded}
use Rattle.ldap_filter.specs.filter.Filters.{Filter, Filters}
use Rattle.ldap_filter.specs.filter.Filters.Filter.{And, Or, Not, Equal, Parts, AtLeast, AtMost, Present, Approx, Extensible}
use Rattle.ldap_filter.specs.filter.Filters.Filters.{Nil, Cons}

-- ---- octets and lists of octets

abbrev pub octets_code : List ℕ → Gv
octets_code [] = gnil
octets_code (octet ∷ octets) = gcons (gnum octet) (octets_code octets)

abbrev octets_of : Gv → List ℕ
octets_of gnil = []
octets_of (gnum n) = []
octets_of (gcons a b) = num a ∷ octets_of b

octets_back : (octets : List ℕ) → octets_of (octets_code octets) ≡ octets
octets_back [] = refl
octets_back (octet ∷ octets) = ap (λ (rest : List ℕ). octet ∷ rest) (octets_back octets)

abbrev pub option_code : Option (List ℕ) → Gv
option_code None = gnil
option_code (Some octets) = gcons gnil (octets_code octets)

abbrev option_of : Gv → Option (List ℕ)
option_of gnil = None
option_of (gnum n) = None
option_of (gcons a b) = Some (octets_of b)

option_back : (octets : Option (List ℕ)) → option_of (option_code octets) ≡ octets
option_back None = refl
option_back (Some octets) = ap (λ (rest : List ℕ). Some rest) (octets_back octets)

abbrev pub lists_code : List (List ℕ) → Gv
lists_code [] = gnil
lists_code (first ∷ rest) = gcons (octets_code first) (lists_code rest)

abbrev lists_of : Gv → List (List ℕ)
lists_of gnil = []
lists_of (gnum n) = []
lists_of (gcons a b) = octets_of a ∷ lists_of b

lists_back : (lists : List (List ℕ)) → lists_of (lists_code lists) ≡ lists
lists_back [] = refl
lists_back (first ∷ rest) =
    ap (λ (octets : List ℕ). octets ∷ lists_of (lists_code rest)) (octets_back first) ∙ ap (λ (lists : List (List ℕ)). first ∷ lists) (lists_back rest)

-- ---- filters

abbrev pub pair_code : List ℕ → List ℕ → Gv
pair_code kind value = gcons (octets_code kind) (octets_code value)

abbrev mutual
  pub filter_code : Filter → Gv
  filter_code (And members) = gcons (gnum 0) (filters_code members)
  filter_code (Or members) = gcons (gnum 1) (filters_code members)
  filter_code (Not member) = gcons (gnum 2) (filter_code member)
  filter_code (Equal kind value) = gcons (gnum 3) (pair_code kind value)
  filter_code (Parts kind initial any final) = gcons (gnum 4) (gcons (octets_code kind) (gcons (option_code initial) (gcons (lists_code any) (option_code final))))
  filter_code (AtLeast kind value) = gcons (gnum 5) (pair_code kind value)
  filter_code (AtMost kind value) = gcons (gnum 6) (pair_code kind value)
  filter_code (Present kind) = gcons (gnum 7) (octets_code kind)
  filter_code (Approx kind value) = gcons (gnum 8) (pair_code kind value)
  filter_code (Extensible content) = gcons (gnum 9) (octets_code content)

  pub filters_code : Filters → Gv
  filters_code Nil = gnil
  filters_code (Cons first rest) = gcons (filter_code first) (filters_code rest)

abbrev first_of : Gv → Gv
first_of gnil = gnil
first_of (gnum n) = gnil
first_of (gcons a b) = a

abbrev rest_of : Gv → Gv
rest_of gnil = gnil
rest_of (gnum n) = gnil
rest_of (gcons a b) = b

-- the filter with this number, from what its code holds and the members that were made of that
abbrev made : ℕ → Gv → Filter → Filters → Filter
made zero held member members = And members
made (suc zero) held member members = Or members
made (suc (suc zero)) held member members = Not member
made (suc (suc (suc zero))) held member members = Equal (octets_of (first_of held)) (octets_of (rest_of held))
made (suc (suc (suc (suc zero)))) held member members =
    Parts (octets_of (first_of held)) (option_of (first_of (rest_of held))) (lists_of (first_of (rest_of (rest_of held)))) (option_of (rest_of (rest_of (rest_of held))))
made (suc (suc (suc (suc (suc zero))))) held member members = AtLeast (octets_of (first_of held)) (octets_of (rest_of held))
made (suc (suc (suc (suc (suc (suc zero)))))) held member members = AtMost (octets_of (first_of held)) (octets_of (rest_of held))
made (suc (suc (suc (suc (suc (suc (suc zero))))))) held member members = Present (octets_of held)
made (suc (suc (suc (suc (suc (suc (suc (suc zero)))))))) held member members = Approx (octets_of (first_of held)) (octets_of (rest_of held))
made (suc (suc (suc (suc (suc (suc (suc (suc (suc n))))))))) held member members = Extensible (octets_of held)

-- the filter and the list of filters that a tree gives back
abbrev both_of : Gv → Filter × Filters
both_of gnil = (Present [], Nil)
both_of (gnum n) = (Present [], Nil)
both_of (gcons a b) = (made (num a) b (both_of b).0 (both_of b).1, Cons (both_of a).0 (both_of b).1)

pair_back : (make : List ℕ → List ℕ → Filter) (kind value : List ℕ)
    → make (octets_of (octets_code kind)) (octets_of (octets_code value)) ≡ make kind value
pair_back make kind value =
    ap (λ (k : List ℕ). make k (octets_of (octets_code value))) (octets_back kind) ∙ ap (λ (v : List ℕ). make kind v) (octets_back value)

parts_back : (kind : List ℕ) (initial : Option (List ℕ)) (any : List (List ℕ)) (final : Option (List ℕ))
    → Parts (octets_of (octets_code kind)) (option_of (option_code initial)) (lists_of (lists_code any)) (option_of (option_code final)) ≡ Parts kind initial any final
parts_back kind initial any final =
    ap (λ (k : List ℕ). Parts k (option_of (option_code initial)) (lists_of (lists_code any)) (option_of (option_code final))) (octets_back kind)
    ∙ ap (λ (i : Option (List ℕ)). Parts kind i (lists_of (lists_code any)) (option_of (option_code final))) (option_back initial)
    ∙ ap (λ (a : List (List ℕ)). Parts kind initial a (option_of (option_code final))) (lists_back any)
    ∙ ap (λ (f : Option (List ℕ)). Parts kind initial any f) (option_back final)

mutual
  filter_back : (f : Filter) → (both_of (filter_code f)).0 ≡ f
  filter_back (And members) = ap (λ (m : Filters). And m) (filters_back members)
  filter_back (Or members) = ap (λ (m : Filters). Or m) (filters_back members)
  filter_back (Not member) = ap (λ (m : Filter). Not m) (filter_back member)
  filter_back (Equal kind value) = pair_back (λ k v. Equal k v) kind value
  filter_back (Parts kind initial any final) = parts_back kind initial any final
  filter_back (AtLeast kind value) = pair_back (λ k v. AtLeast k v) kind value
  filter_back (AtMost kind value) = pair_back (λ k v. AtMost k v) kind value
  filter_back (Present kind) = ap (λ (k : List ℕ). Present k) (octets_back kind)
  filter_back (Approx kind value) = pair_back (λ k v. Approx k v) kind value
  filter_back (Extensible content) = ap (λ (c : List ℕ). Extensible c) (octets_back content)

  filters_back : (fs : Filters) → (both_of (filters_code fs)).1 ≡ fs
  filters_back Nil = refl
  filters_back (Cons first rest) =
      ap (λ (f : Filter). Cons f (both_of (filters_code rest)).1) (filter_back first) ∙ ap (λ (r : Filters). Cons first r) (filters_back rest)

pub filter_inj : (f g : Filter) → filter_code f ≡ filter_code g → f ≡ g
filter_inj f g e = sym (filter_back f) ∙ ap (λ (t : Gv). (both_of t).0) e ∙ filter_back g

-- the code of filters
abbrev pub coded_filter : Coded Filter
coded_filter = record { code = filter_code; inj = filter_inj }
