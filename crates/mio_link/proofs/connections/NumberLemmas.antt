-- What the search for a number says of the places.
use Rattle.std.proofs.Common.{◌≡◌, ◌≢◌, ◌∙◌, ℕ, ◌<◌, ◌≤◌, Bool, true, false, true≢false, List, length, get_or, Option, Some, None, is_none, IfSome, IfNone, position, refl, sym, ap, inl, inr, arith, lt-ltb}
use Rattle.std.specs.List.{position_or_len}
use Rattle.std.proofs.lemmas.Bool.{cases_lt, eq-eqb, eqb-true}
use Rattle.std.proofs.lemmas.List.{get_or_past}
use Rattle.std.proofs.lemmas.List.Quantifiers.{position-Some}
use Rattle.std.proofs.lemmas.List.Sums.{fails_before_first}
use Rattle.mio_link.specs.Numbers.{stands, number_of}
use Rattle.mio_link.specs.declared.connection.Connection.{Connection}

-- a connection that has the number is found by it
stands-says : {S : Type 0} (number : ℕ) (held : Option (Connection S)) → number_of held ≡ Some number → stands number held ≡ true
stands-says number None says = absurd cc
stands-says number (Some connection) says =
    let same : connection.number ≡ number = cc in
    eq-eqb connection.number number same

-- and what is found by a number has it
says-stands : {S : Type 0} (number : ℕ) (held : Option (Connection S)) → stands number held ≡ true → number_of held ≡ Some number
says-stands number None found = absurd cc
says-stands number (Some connection) found = ap Some (eqb-true connection.number number found)

-- where the search ends without a place, none has it
nowhere : {S : Type 0} (number : ℕ) (items : List (Option (Connection S))) → position (stands number) items ≡ None
    → (place : ℕ) → number_of (get_or items place None) ≢ Some number
nowhere number items none place says = elim (cases_lt (position_or_len (stands number) items) (length items)) [
  | inl inside ↦
      let found : position (stands number) items ≡ Some (position_or_len (stands number) items) =
      rw (lt-ltb (position_or_len (stands number) items) (length items) inside) refl in
      absurd cc
  | inr past ↦ elim (cases_lt place (length items)) [
    | inl below ↦ absurd (true≢false (sym (stands-says number (get_or items place None) says)
        ∙ fails_before_first (stands number) items place None (omega (arith, below, past))))
    | inr behind ↦
        let free : get_or items place None ≡ None = get_or_past items place None behind in
        let nothing : None ≡ Some number = rw free at says in
        absurd cc
  ]
]

-- what an answer of the search says
pub finds-none : {S : Type 0} (number : ℕ) (items : List (Option (Connection S))) (found : Option ℕ) → found ≡ position (stands number) items
    → IfNone found ((place : ℕ) → number_of (get_or items place None) ≢ Some number)
finds-none number items None is = nowhere number items (sym is)
finds-none number items (Some place) is = tt

pub finds : {S : Type 0} (number : ℕ) (items : List (Option (Connection S))) (found : Option ℕ) → found ≡ position (stands number) items
    → IfSome found (λ place. number_of (get_or items place None) ≡ Some number)
finds number items None is = tt
finds number items (Some place) is =
    says-stands number (get_or items place None) (position-Some (stands number) items place None (sym is)).1

-- a place that is free has no number
free-none : {S : Type 0} (held : Option (Connection S)) → is_none held ≡ true → number_of held ≡ None
free-none None free = refl
free-none (Some connection) free = absurd cc

pub finds-free : {S : Type 0} (items : List (Option (Connection S))) (found : Option ℕ) → found ≡ position is_none items
    → IfSome found (λ place. (place < length items) × (number_of (get_or items place None) ≡ None))
finds-free items None is = tt
finds-free items (Some place) is =
    let at = position-Some is_none items place None (sym is) in
    (at.0, free-none (get_or items place None) at.1)
