-- A component that is read stands there, and one that stands there is read.
use Rattle.std.proofs.Common.{inl, inr, ◌≡◌, ℕ, Bool, true, false, cond, eqb, List, [], ◌∷◌, ◌++◌, length, Option, Some, None, refl, sym, ap, subst, ◌∙◌, ◌<◌}
use Rattle.std.specs.Prelude.{not}
use Rattle.std.proofs.lemmas.Bool.{eq-eqb, ne_eqb, eqb-false}
use Rattle.std.proofs.lemmas.Option.{same_Some}
use Rattle.ber_elements.specs.write.Element.{Elem, IsHeader}
use Rattle.ber_layout.specs.element.Pieces.{Piece, ◌>>=◌, piece_at, tagged_at}
use Rattle.ber_layout.specs.components.Flags.{IsFlag, flag_of}
use Rattle.ber_layout.specs.components.Components.{Follows, MayFollow, MarkFollows, EachFollows, Component, begins, any_of, required_of, optional_of, marked_of}
use Rattle.ber_layout.proofs.element.PieceLemmas.{piece_sound, piece_again}
use Rattle.ber_layout.proofs.components.StepLemmas.{bind_some, tagged_sound, tagged_again}

-- an element at the front whose content is Inner, and what follows it
pub record Stands {A : Type 0} (tag : ℕ) (Inner : A → List ℕ → Type 0) (bytes : List ℕ) (found : Component A) : Type 0 where
  pub content : List ℕ
  pub front : List ℕ
  pub element : Elem tag content front
  pub inner : Inner found.value content
  pub joins : bytes ≡ front ++ found.rest
  pub shorter : length found.rest < length bytes

-- with what is Next it is followed
pub follows : {A : Type 0} (tag : ℕ) (Inner : A → List ℕ → Type 0) (Next : List ℕ → Type 0) (bytes : List ℕ) (found : Component A)
    → Stands tag Inner bytes found → Next found.rest → Follows tag (Inner found.value) Next bytes
follows tag Inner Next bytes found stands next =
    record { content = stands.content; front = stands.front; rest = found.rest; element = stands.element; inner = stands.inner; next = next; joins = stands.joins }

-- the value is read, and what follows it is Next
pub record Read {A : Type 0} (Next : List ℕ → Type 0) (value : A) (answer : Option (Component A)) : Type 0 where
  pub rest : List ℕ
  pub next : Next rest
  pub found : answer ≡ Some (record { value = value; rest = rest })

-- ---- any element

pub any_sound : (bytes : List ℕ) (found : Component (ℕ × List ℕ)) → any_of bytes ≡ Some found
    → Stands found.value.0 (λ (value : ℕ × List ℕ) (content : List ℕ). value.1 ≡ content) bytes found
unfolding any_of
any_sound bytes found e =
    let a = bind_some (piece_at bytes) (λ (piece : Piece). Some (record { value = (piece.tag, piece.content); rest = piece.rest })) found e in
    let takes = piece_sound bytes a.0 a.1 in
    let made : Component (ℕ × List ℕ) = record { value = (a.0.tag, a.0.content); rest = a.0.rest } in
    let stands : Stands made.value.0 (λ (value : ℕ × List ℕ) (content : List ℕ). value.1 ≡ content) bytes made =
    record { content = a.0.content; front = takes.front; element = takes.element; inner = refl; joins = takes.joins; shorter = takes.shorter } in
    subst (λ (f : Component (ℕ × List ℕ)). Stands f.value.0 (λ (value : ℕ × List ℕ) (content : List ℕ). value.1 ≡ content) bytes f) (same_Some made found a.2) stands

pub any_again : (tag : ℕ) (content front rest : List ℕ) → Elem tag content front → any_of (front ++ rest) ≡ Some (record { value = (tag, content); rest = rest })
unfolding any_of
any_again tag content front rest e = rw (piece_again tag content front rest e) refl

-- ---- one with a tag

pub required_sound : {A : Type 0} (tag : ℕ) (reader : List ℕ → Option A) (Inner : A → List ℕ → Type 0)
    → ((content : List ℕ) (value : A) → reader content ≡ Some value → Inner value content)
    → (bytes : List ℕ) (found : Component A) → required_of tag reader bytes ≡ Some found → Stands tag Inner bytes found
unfolding required_of
required_sound {A} tag reader Inner inner bytes found e =
    let a = bind_some (tagged_at tag bytes) (λ (piece : Piece). (reader piece.content >>= λ (value : A). Some (record { value = value; rest = piece.rest }))) found e in
    let b = bind_some (reader a.0.content) (λ (value : A). Some (record { value = value; rest = a.0.rest })) found a.2 in
    let tagged = tagged_sound tag bytes a.0 a.1 in
    let made : Component A = record { value = b.0; rest = a.0.rest } in
    let element : Elem tag a.0.content tagged.0.front = subst (λ (t : ℕ). Elem t a.0.content tagged.0.front) tagged.1 tagged.0.element in
    let stands : Stands tag Inner bytes made =
    record { content = a.0.content; front = tagged.0.front; element = element; inner = inner a.0.content b.0 b.1; joins = tagged.0.joins; shorter = tagged.0.shorter } in
    subst (Stands tag Inner bytes) (same_Some made found b.2) stands

pub required_again : {A : Type 0} (tag : ℕ) (reader : List ℕ → Option A) (value : A) (content front rest : List ℕ)
    → Elem tag content front → reader content ≡ Some value → required_of tag reader (front ++ rest) ≡ Some (record { value = value; rest = rest })
unfolding required_of
required_again tag reader value content front rest e reads = rw (tagged_again tag content front rest e, reads) refl

-- ---- the first octet

begun : (tag len : ℕ) (header : List ℕ) → IsHeader header tag len → (content front rest : List ℕ) → front ≡ header ++ content → begins tag (front ++ rest) ≡ true
begun tag len [] heads content front rest joined = absurd heads
begun tag len (first ∷ octets) heads content front rest joined = ap (λ (s : List ℕ). begins tag (s ++ rest)) joined ∙ eq-eqb first tag heads.0

begun_not : (tag other len : ℕ) (header : List ℕ) → IsHeader header other len → (content front rest : List ℕ) → front ≡ header ++ content → eqb tag other ≡ false → begins tag (front ++ rest) ≡ false
begun_not tag other len [] heads content front rest joined differ = absurd heads
begun_not tag other len (first ∷ octets) heads content front rest joined differ =
    ap (λ (s : List ℕ). begins tag (s ++ rest)) joined ∙ ne_eqb first tag (λ same. eqb-false tag other differ (sym same ∙ heads.0))

-- an element begins with its tag
pub begins_by : (tag : ℕ) (content front rest : List ℕ) → Elem tag content front → begins tag (front ++ rest) ≡ true
begins_by tag content front rest e = begun tag (length content) e.header e.heads content front rest e.joined

-- an element with another tag doesn't begin with this one
pub begins_not : (tag other : ℕ) (content front rest : List ℕ) → Elem other content front → eqb tag other ≡ false → begins tag (front ++ rest) ≡ false
begins_not tag other content front rest e differ = begun_not tag other (length content) e.header e.heads content front rest e.joined differ

-- ---- one that may be absent

optional_by : {A : Type 0} (test : Bool) (tag : ℕ) (reader : List ℕ → Option A) (Inner : A → List ℕ → Type 0) (Next : List ℕ → Type 0)
    → ((content : List ℕ) (value : A) → reader content ≡ Some value → Inner value content)
    → (bytes : List ℕ) (found : Component (Option A))
    → cond test (required_of tag reader bytes >>= λ (f : Component A). Some (record { value = Some f.value; rest = f.rest })) (Some (record { value = None; rest = bytes })) ≡ Some found
    → Next found.rest → MayFollow tag Inner Next found.value bytes
optional_by {A} true tag reader Inner Next inner bytes found e =
    let a = bind_some (required_of tag reader bytes) (λ (f : Component A). Some (record { value = Some f.value; rest = f.rest })) found e in
    let made : Component (Option A) = record { value = Some a.0.value; rest = a.0.rest } in
    let stands = required_sound tag reader Inner inner bytes a.0 a.1 in
    subst (λ (f : Component (Option A)). Next f.rest → MayFollow tag Inner Next f.value bytes) (same_Some made found a.2) (λ next. follows tag Inner Next bytes a.0 stands next)
optional_by {A} false tag reader Inner Next inner bytes found e =
    let made : Component (Option A) = record { value = None; rest = bytes } in
    subst (λ (f : Component (Option A)). Next f.rest → MayFollow tag Inner Next f.value bytes) (same_Some made found e) (λ next. next)

pub optional_sound : {A : Type 0} (tag : ℕ) (reader : List ℕ → Option A) (Inner : A → List ℕ → Type 0) (Next : List ℕ → Type 0)
    → ((content : List ℕ) (value : A) → reader content ≡ Some value → Inner value content)
    → (bytes : List ℕ) (found : Component (Option A)) → optional_of tag reader bytes ≡ Some found
    → Next found.rest → MayFollow tag Inner Next found.value bytes
unfolding optional_of
optional_sound tag reader Inner Next inner bytes found e = optional_by (begins tag bytes) tag reader Inner Next inner bytes found e

pub optional_none : {A : Type 0} (tag : ℕ) (reader : List ℕ → Option A) (bytes : List ℕ) → begins tag bytes ≡ false
    → optional_of tag reader bytes ≡ Some (record { value = None; rest = bytes })
unfolding optional_of
optional_none tag reader bytes not_there = rw not_there refl

pub optional_some : {A : Type 0} (tag : ℕ) (reader : List ℕ → Option A) (value : A) (content front rest : List ℕ)
    → Elem tag content front → reader content ≡ Some value → optional_of tag reader (front ++ rest) ≡ Some (record { value = Some value; rest = rest })
unfolding optional_of
optional_some tag reader value content front rest e reads =
    let there = begins_by tag content front rest e in
    let found = required_again tag reader value content front rest e reads in
    rw (there, found) refl

-- ---- flags

pub flag_sound : (content : List ℕ) (flag : Bool) → flag_of content ≡ Some flag → IsFlag flag content
flag_sound [] flag e = absurd cc
flag_sound (octet ∷ []) flag e = record { octet = octet; alone = refl; says = sym (same_Some (not (eqb octet 0)) flag e) }
flag_sound (octet ∷ other ∷ octets) flag e = absurd cc

pub flag_again : (flag : Bool) (content : List ℕ) → IsFlag flag content → flag_of content ≡ Some flag
flag_again flag content is = ap flag_of is.alone ∙ ap Some (sym is.says)

mark_follows : (tag : ℕ) (Next : List ℕ → Type 0) (flag : Bool) (bytes : List ℕ) → Follows tag (IsFlag flag) Next bytes → MarkFollows tag Next flag bytes
mark_follows tag Next true bytes there = there
mark_follows tag Next false bytes there = inr there

marked_by : (test : Bool) (tag : ℕ) (Next : List ℕ → Type 0) (bytes : List ℕ) (found : Component Bool)
    → cond test (required_of tag flag_of bytes) (Some (record { value = false; rest = bytes })) ≡ Some found
    → Next found.rest → MarkFollows tag Next found.value bytes
marked_by true tag Next bytes found e next =
    mark_follows tag Next found.value bytes (follows tag IsFlag Next bytes found (required_sound tag flag_of IsFlag flag_sound bytes found e) next)
marked_by false tag Next bytes found e next =
    let made : Component Bool = record { value = false; rest = bytes } in
    subst (λ (f : Component Bool). Next f.rest → MarkFollows tag Next f.value bytes) (same_Some made found e) (λ stays. inl stays) next

pub marked_sound : (tag : ℕ) (Next : List ℕ → Type 0) (bytes : List ℕ) (found : Component Bool) → marked_of tag bytes ≡ Some found
    → Next found.rest → MarkFollows tag Next found.value bytes
unfolding marked_of
marked_sound tag Next bytes found e = marked_by (begins tag bytes) tag Next bytes found e

pub marked_none : (tag : ℕ) (bytes : List ℕ) → begins tag bytes ≡ false → marked_of tag bytes ≡ Some (record { value = false; rest = bytes })
unfolding marked_of
marked_none tag bytes not_there = rw not_there refl

pub marked_some : (tag : ℕ) (flag : Bool) (content front rest : List ℕ) → Elem tag content front → IsFlag flag content
    → marked_of tag (front ++ rest) ≡ Some (record { value = flag; rest = rest })
unfolding marked_of
marked_some tag flag content front rest e is =
    let there = begins_by tag content front rest e in
    let found = required_again tag flag_of flag content front rest e (flag_again flag content is) in
    rw (there, found) refl

-- ---- what stands there is read

pub optional_again : {A : Type 0} (value : Option A) (tag : ℕ) (reader : List ℕ → Option A) (Inner : A → List ℕ → Type 0) (Next : List ℕ → Type 0)
    → ((rest : List ℕ) → Next rest → begins tag rest ≡ false)
    → ((value : A) (content : List ℕ) → Inner value content → reader content ≡ Some value)
    → (bytes : List ℕ) → MayFollow tag Inner Next value bytes → Read Next value (optional_of tag reader bytes)
optional_again None tag reader Inner Next ends reads bytes says = record { rest = bytes; next = says; found = optional_none tag reader bytes (ends bytes says) }
optional_again (Some value) tag reader Inner Next ends reads bytes says =
    record {
      rest = says.rest;
      next = says.next;
      found = ap (optional_of tag reader) says.joins ∙ optional_some tag reader value says.content says.front says.rest says.element (reads value says.content says.inner);
    }

marked_there : (tag : ℕ) (flag : Bool) (Next : List ℕ → Type 0) (bytes : List ℕ) → Follows tag (IsFlag flag) Next bytes → Read Next flag (marked_of tag bytes)
marked_there tag flag Next bytes says =
    record {
      rest = says.rest;
      next = says.next;
      found = ap (marked_of tag) says.joins ∙ marked_some tag flag says.content says.front says.rest says.element says.inner;
    }

pub marked_again : (flag : Bool) (tag : ℕ) (Next : List ℕ → Type 0) → ((rest : List ℕ) → Next rest → begins tag rest ≡ false)
    → (bytes : List ℕ) → MarkFollows tag Next flag bytes → Read Next flag (marked_of tag bytes)
marked_again true tag Next ends bytes says = marked_there tag true Next bytes says
marked_again false tag Next ends bytes (inl says) = record { rest = bytes; next = says; found = marked_none tag bytes (ends bytes says) }
marked_again false tag Next ends bytes (inr says) = marked_there tag false Next bytes says

-- ---- what doesn't begin with a tag

pub may_not : {A : Type 0} (value : Option A) (tag other : ℕ) (Inner : A → List ℕ → Type 0) (Next : List ℕ → Type 0) (bytes : List ℕ)
    → eqb tag other ≡ false → (Next bytes → begins tag bytes ≡ false) → MayFollow other Inner Next value bytes → begins tag bytes ≡ false
may_not None tag other Inner Next bytes differ ends says = ends says
may_not (Some value) tag other Inner Next bytes differ ends says =
    ap (begins tag) says.joins ∙ begins_not tag other says.content says.front says.rest says.element differ

pub mark_not : (flag : Bool) (tag other : ℕ) (Next : List ℕ → Type 0) (bytes : List ℕ)
    → eqb tag other ≡ false → (Next bytes → begins tag bytes ≡ false) → MarkFollows other Next flag bytes → begins tag bytes ≡ false
mark_not true tag other Next bytes differ ends says = ap (begins tag) says.joins ∙ begins_not tag other says.content says.front says.rest says.element differ
mark_not false tag other Next bytes differ ends (inl says) = ends says
mark_not false tag other Next bytes differ ends (inr says) = ap (begins tag) says.joins ∙ begins_not tag other says.content says.front says.rest says.element differ

pub each_not : {A : Type 0} (values : List A) (tag other : ℕ) (Inner : A → List ℕ → Type 0) (Next : List ℕ → Type 0) (bytes : List ℕ)
    → eqb tag other ≡ false → (Next bytes → begins tag bytes ≡ false) → EachFollows other Inner Next values bytes → begins tag bytes ≡ false
each_not [] tag other Inner Next bytes differ ends says = ends says
each_not (value ∷ values) tag other Inner Next bytes differ ends says =
    ap (begins tag) says.joins ∙ begins_not tag other says.content says.front says.rest says.element differ
