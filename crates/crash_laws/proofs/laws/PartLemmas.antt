-- What octets say is made of octets: the parts of a value of any layout, where what says it is octets.
use Rattle.std.proofs.Common.{◌≡◌, ℕ, zero, suc, ◌<◌, inl, inr, Bool, true, false, List, [], ◌∷◌, Option, Some, None, arith, sym, subst}
use Rattle.std.specs.List.{AllByRecursion}
use Rattle.base64.specs.GeneralPurpose.{IsBytes}
use Rattle.session_model.specs.ber_elements.Laws.{AreOctets}
use Rattle.session_model.specs.ber_layout.components.Components.{Follows, MayFollow, MarkFollows, EachFollows}
use Rattle.session_model.specs.ber_layout.components.Flags.{IsFlag}
use Rattle.session_model.specs.ber_layout.Layouts.{Layout, Value, Says}
use Rattle.session_model.specs.ber_layout.Layouts.Layout.{AnyOctets, Ignored, Number, Skipped, Flag, End, Further, FurtherBut, AnyElement, Then, Maybe, Marked, Each}
use Rattle.session_model.proofs.Theorems.{all_append}

-- octets are bytes
pub bytes-octets : (octets : List ℕ) → AreOctets octets → IsBytes octets
bytes-octets [] are index = omega arith
bytes-octets (octet ∷ octets) are zero = are.0
bytes-octets (octet ∷ octets) are (suc index) = bytes-octets octets are.1 index

-- where there is a value, the claim holds of it
abbrev pub MayHold : {A : Type 0} → (A → Type 0) → Option A → Type 0
MayHold Claim None = Unit {0}
MayHold Claim (Some value) = Claim value

-- each part of a value that is a list of octets has octets alone
abbrev pub IsMadeOfOctets : (l : Layout) → Value l → Type 0
IsMadeOfOctets AnyOctets value = AreOctets value
IsMadeOfOctets Ignored value = Unit {0}
IsMadeOfOctets (Number low high) value = Unit {0}
IsMadeOfOctets (Skipped low high) value = Unit {0}
IsMadeOfOctets Flag value = Unit {0}
IsMadeOfOctets End value = Unit {0}
IsMadeOfOctets Further value = Unit {0}
IsMadeOfOctets (FurtherBut tag) value = Unit {0}
IsMadeOfOctets (AnyElement next) value = AreOctets value.0.1 × IsMadeOfOctets next value.1
IsMadeOfOctets (Then tag inner next) value = IsMadeOfOctets inner value.0 × IsMadeOfOctets next value.1
IsMadeOfOctets (Maybe tag inner next) value = MayHold (IsMadeOfOctets inner) value.0 × IsMadeOfOctets next value.1
IsMadeOfOctets (Marked tag next) value = IsMadeOfOctets next value.1
IsMadeOfOctets (Each tag inner next) value = AllByRecursion (IsMadeOfOctets inner) value.0 × IsMadeOfOctets next value.1

-- the content of an element, and what follows it
pub follows_octets : (tag : ℕ) (Inner Next : List ℕ → Type 0) (bytes : List ℕ) (stands : Follows tag Inner Next bytes) → AreOctets bytes
    → AreOctets stands.content × AreOctets stands.rest
follows_octets tag Inner Next bytes stands octets =
    let parts = all_append (λ octet. octet < 256) stands.front stands.rest (subst AreOctets stands.joins octets) in
    let inside = all_append (λ octet. octet < 256) stands.element.header stands.content (subst AreOctets stands.element.joined parts.0) in
    (inside.1, parts.1)

module _ {A : Type 0} (tag : ℕ) (Inner : A → List ℕ → Type 0) (Next : List ℕ → Type 0) (Claim : A → Type 0) (Later : Type 0)
    (inside : (value : A) (content : List ℕ) → AreOctets content → Inner value content → Claim value)
    (behind : (rest : List ℕ) → AreOctets rest → Next rest → Later) where
  -- an element that stands
  then_octets : (value : A) (bytes : List ℕ) → AreOctets bytes → Follows tag (Inner value) Next bytes → Claim value × Later
  then_octets value bytes octets says =
      let parts = follows_octets tag (Inner value) Next bytes says octets in
      (inside value says.content parts.0 says.inner, behind says.rest parts.1 says.next)

  -- one that may
  maybe_octets : (found : Option A) (bytes : List ℕ) → AreOctets bytes → MayFollow tag Inner Next found bytes → MayHold Claim found × Later
  maybe_octets None bytes octets says = (tt, behind bytes octets says)
  maybe_octets (Some value) bytes octets says = then_octets value bytes octets says

-- any number of them
each_octets : {A : Type 0} (tag : ℕ) (Inner : A → List ℕ → Type 0) (Next : List ℕ → Type 0) (Claim : A → Type 0) (Later : Type 0)
    → ((value : A) (content : List ℕ) → AreOctets content → Inner value content → Claim value)
    → ((rest : List ℕ) → AreOctets rest → Next rest → Later) → (values : List A) (bytes : List ℕ) → AreOctets bytes
    → EachFollows tag Inner Next values bytes → AllByRecursion Claim values × Later
each_octets tag Inner Next Claim Later inside behind [] bytes octets says = (tt, behind bytes octets says)
each_octets tag Inner Next Claim Later inside behind (value ∷ values) bytes octets says =
    let parts = follows_octets tag (Inner value) (EachFollows tag Inner Next values) bytes says octets in
    let later = each_octets tag Inner Next Claim Later inside behind values says.rest parts.1 says.next in
    ((inside value says.content parts.0 says.inner, later.0), later.1)

-- what stands behind a BOOLEAN, which may be absent
marked_octets : (tag : ℕ) (Next : List ℕ → Type 0) (Later : Type 0) → ((rest : List ℕ) → AreOctets rest → Next rest → Later)
    → (found : Bool) (bytes : List ℕ) → AreOctets bytes → MarkFollows tag Next found bytes → Later
marked_octets tag Next Later behind true bytes octets says =
    behind says.rest (follows_octets tag (IsFlag true) Next bytes says octets).1 says.next
marked_octets tag Next Later behind false bytes octets (inl says) = behind bytes octets says
marked_octets tag Next Later behind false bytes octets (inr says) =
    behind says.rest (follows_octets tag (IsFlag false) Next bytes says octets).1 says.next

-- the value that octets say
pub said_octets : (l : Layout) (value : Value l) (bytes : List ℕ) → AreOctets bytes → Says l value bytes → IsMadeOfOctets l value
said_octets AnyOctets value bytes octets says = subst AreOctets (sym says) octets
said_octets Ignored value bytes octets says = tt
said_octets (Number low high) value bytes octets says = tt
said_octets (Skipped low high) value bytes octets says = tt
said_octets Flag value bytes octets says = tt
said_octets End value bytes octets says = tt
said_octets Further value bytes octets says = tt
said_octets (FurtherBut tag) value bytes octets says = tt
said_octets (AnyElement next) value bytes octets says =
    let parts = follows_octets value.0.0 (λ content. value.0.1 ≡ content) (Says next value.1) bytes says octets in
    (subst AreOctets (sym says.inner) parts.0, said_octets next value.1 says.rest parts.1 says.next)
said_octets (Then tag inner next) value bytes octets says =
    then_octets tag (Says inner) (Says next value.1) (IsMadeOfOctets inner) (IsMadeOfOctets next value.1)
    (λ part content. said_octets inner part content) (λ rest. said_octets next value.1 rest) value.0 bytes octets says
said_octets (Maybe tag inner next) value bytes octets says =
    maybe_octets tag (Says inner) (Says next value.1) (IsMadeOfOctets inner) (IsMadeOfOctets next value.1)
    (λ part content. said_octets inner part content) (λ rest. said_octets next value.1 rest) value.0 bytes octets says
said_octets (Marked tag next) value bytes octets says =
    marked_octets tag (Says next value.1) (IsMadeOfOctets next value.1) (λ rest. said_octets next value.1 rest) value.0 bytes octets says
said_octets (Each tag inner next) value bytes octets says =
    each_octets tag (Says inner) (Says next value.1) (IsMadeOfOctets inner) (IsMadeOfOctets next value.1)
    (λ part content. said_octets inner part content) (λ rest. said_octets next value.1 rest) value.0 bytes octets says
