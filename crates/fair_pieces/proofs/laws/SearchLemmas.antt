-- What reads as a search of another scope than that of the base object is wide, and only what reads as a search.
use Rattle.std.proofs.Common.{◌≡◌, ◌≢◌, ℕ, Bool, true, false, pos, List, [], ◌∷◌, ◌++◌, length, drop, refl, sym, ap, subst, ◌∙◌, inl, inr, arith}
use Rattle.std.specs.Prelude.{◌==◌, ◌&&◌, not}
use Rattle.std.proofs.Math.Seq.{drop-append_seam}
use Rattle.std.proofs.lemmas.Bool.{cases_Bool, and_parts, eqb-true}
use Rattle.std.proofs.lemmas.List.{append_assoc, length-append}
use Rattle.ber_elements.specs.write.Element.{IsHeader, Elem}
use Rattle.ber_elements.specs.Heading.{length_at, header_at}
use Rattle.ber_elements.specs.Integer.{IsInteger}
use Rattle.ber_elements.proofs.Theorems.{element_again}
use Rattle.ldap_msg.specs.declared.kinds.Message.{Message}
use Rattle.ldap_msg.specs.declared.kinds.Request.{Request}
use Rattle.ldap_msg.specs.declared.kinds.Request.TheVariants as request
use Rattle.ldap_msg.specs.declared.kinds.Update.TheVariants as update
use Rattle.ldap_msg.specs.declared.kinds.SearchScope.TheVariants.{BaseObject}
use Rattle.ldap_msg.specs.declared.kinds.SearchRequest.{SearchRequest}
use Rattle.ldap_msg.specs.operations.Operations.{request_tag}
use Rattle.ldap_msg.specs.Search.{scope_from, SaysSearch}
use Rattle.ldap_msg.specs.reading.Contents.{operation_for, SaysContent}
use Rattle.ldap_msg.specs.reading.Messages.{Says}
use Rattle.fair_pieces.specs.Wide.{behind_header, behind_element, inside, past, begins_search, is_of_base, operation_in, scope_in, is_wide}

-- ---- elements

parts : (tag : ℕ) (content front rest : List ℕ) (e : Elem tag content front) → front ++ rest ≡ e.header ++ (content ++ rest)
parts tag content front rest e = ap (λ (s : List ℕ). s ++ rest) e.joined ∙ append_assoc e.header content rest

-- behind the header of an element is its content, and then what follows it
inside_is : (tag : ℕ) (content front rest : List ℕ) → Elem tag content front → inside (front ++ rest) ≡ content ++ rest
inside_is tag content front rest e =
    ap (behind_header (front ++ rest)) (element_again tag content front rest e)
    ∙ ap (drop (length e.header)) (parts tag content front rest e)
    ∙ drop-append_seam e.header (content ++ rest)

-- behind an element is what follows it
past_is : (tag : ℕ) (content front rest : List ℕ) → Elem tag content front → past (front ++ rest) ≡ rest
past_is tag content front rest e =
    ap (behind_element (front ++ rest)) (element_again tag content front rest e)
    ∙ ap (λ (s : List ℕ). drop (length content) (drop (length e.header) s)) (parts tag content front rest e)
    ∙ ap (drop (length content)) (drop-append_seam e.header (content ++ rest))
    ∙ drop-append_seam content rest

begins_header : (header rest : List ℕ) (tag len : ℕ) → IsHeader header tag len → begins_search (header ++ rest) ≡ (tag == 0x63)
begins_header [] rest tag len h = absurd h
begins_header (first ∷ octets) rest tag len h = ap (λ (t : ℕ). t == 0x63) h.0

-- an element begins with its tag
begins_is : (tag : ℕ) (content front rest : List ℕ) → Elem tag content front → begins_search (front ++ rest) ≡ (tag == 0x63)
begins_is tag content front rest e = ap begins_search (parts tag content front rest e) ∙ begins_header e.header (content ++ rest) tag (length content) e.heads

-- ---- the operation of a message

-- it stands behind the message's number
record IsOperation (message : Message) (octets : List ℕ) : Type 0 where
  pub tag : ℕ
  pub content : List ℕ
  pub front : List ℕ
  pub rest : List ℕ
  pub element : Elem tag content front
  pub stands : operation_in octets ≡ front ++ rest
  pub is_tag : tag ≡ request_tag (operation_for message.request)
  pub says : SaysContent message.request content

operation_there : (message : Message) (octets : List ℕ) → Says message octets → IsOperation message octets
operation_there message octets f =
    let g = f.inner.says in
    let h = g.next in
    let opened : inside octets ≡ g.front ++ (g.rest ++ f.rest) =
    ap inside f.joins ∙ inside_is 0x30 f.content f.front f.rest f.element ∙ ap (λ (s : List ℕ). s ++ f.rest) g.joins ∙ append_assoc g.front g.rest f.rest in
    let behind : past (inside octets) ≡ g.rest ++ f.rest = ap past opened ∙ past_is 0x02 g.content g.front (g.rest ++ f.rest) g.element in
    record {
      tag = f.inner.parts.1.0.0;
      content = h.content;
      front = h.front;
      rest = h.rest ++ f.rest;
      element = h.element;
      stands = behind ∙ ap (λ (s : List ℕ). s ++ f.rest) h.joins ∙ append_assoc h.front h.rest f.rest;
      is_tag = f.inner.tag;
      says = subst (SaysContent message.request) h.inner f.inner.request;
    }

-- ---- the scope of a search

-- octets that begin as a scope of the base object does
record IsBase (octets : List ℕ) : Type 0 where
  pub rest : List ℕ
  pub is : octets ≡ 0x0a ∷ 1 ∷ 0 ∷ rest

base_there : (octets : List ℕ) → is_of_base octets ≡ true → IsBase octets
base_there [] e = absurd cc
base_there (tag ∷ []) e = absurd cc
base_there (tag ∷ len ∷ []) e = absurd cc
base_there (tag ∷ len ∷ value ∷ octets) e =
    let outer = and_parts (tag == 0x0a && len == 1) (value == 0) e in
    let inner = and_parts (tag == 0x0a) (len == 1) outer.0 in
    let tag_is : tag ≡ 0x0a = eqb-true tag 0x0a inner.0 in
    let len_is : len ≡ 1 = eqb-true len 1 inner.1 in
    let value_is : value ≡ 0 = eqb-true value 0 outer.1 in
    record { rest = octets; is = cc }

base_inside : (rest : List ℕ) → inside (0x0a ∷ 1 ∷ 0 ∷ rest) ≡ 0 ∷ rest
unfolding header_at length_at
base_inside rest = refl

base_past : (rest : List ℕ) → past (0x0a ∷ 1 ∷ 0 ∷ rest) ≡ rest
unfolding header_at length_at
base_past rest = refl

-- the number that such a scope says
base_number : (content rest more : List ℕ) (number : ℕ) → content ++ rest ≡ 0 ∷ more → rest ≡ more → IsInteger content (pos number) → number ≡ 0
base_number [] rest more number joins same i = absurd i.shortest
base_number (octet ∷ []) rest more number joins same i =
    let first : octet ≡ 0 = cc in
    let stands : IsInteger (0 ∷ []) (pos number) = subst (λ (o : ℕ). IsInteger (o ∷ []) (pos number)) first i in
    let zero_is : pos number ≡ pos 0 = stands.stands in
    cc
base_number (octet ∷ other ∷ octets) rest more number joins same i =
    let behind : other ∷ (octets ++ rest) ≡ rest = cc in
    let size : length (other ∷ (octets ++ rest)) ≡ length rest = ap length behind in
    absurd (omega (arith, size, length-append octets rest))

-- a scope that isn't 0 doesn't stand for the base object
not_of_base : (content front rest : List ℕ) (number : ℕ) → Elem 0x0a content front → IsInteger content (pos number) → number ≢ 0
    → is_of_base (front ++ rest) ≡ false
not_of_base content front rest number e i other =
    elim (cases_Bool (is_of_base (front ++ rest))) [
      | inl base ↦
          let b = base_there (front ++ rest) base in
          let within : content ++ rest ≡ 0 ∷ b.rest = sym (inside_is 0x0a content front rest e) ∙ ap inside b.is ∙ base_inside b.rest in
          let behind : rest ≡ b.rest = sym (past_is 0x0a content front rest e) ∙ ap past b.is ∙ base_past b.rest in
          absurd (other (base_number content rest b.rest number within behind i))
      | inr away ↦ away
    ]

scope_there : (search : SearchRequest) (content front rest : List ℕ) → Elem 0x63 content front → SaysSearch search content → search.scope ≢ BaseObject
    → is_of_base (scope_in (front ++ rest)) ≡ false
scope_there search content front rest e s other =
    let k = s.says in
    let m = k.next in
    let opened : inside (front ++ rest) ≡ k.front ++ (k.rest ++ rest) =
    inside_is 0x63 content front rest e ∙ ap (λ (t : List ℕ). t ++ rest) k.joins ∙ append_assoc k.front k.rest rest in
    let behind : scope_in (front ++ rest) ≡ k.rest ++ rest = ap past opened ∙ past_is 0x04 k.content k.front (k.rest ++ rest) k.element in
    let stands : scope_in (front ++ rest) ≡ m.front ++ (m.rest ++ rest) = behind ∙ ap (λ (t : List ℕ). t ++ rest) m.joins ∙ append_assoc m.front m.rest rest in
    let scope : scope_from s.parts.1.0 ≡ search.scope = ap (λ (t : SearchRequest). t.scope) s.is in
    let away : s.parts.1.0 ≢ 0 = λ zero. other (sym scope ∙ ap scope_from zero) in
    ap is_of_base stands ∙ not_of_base m.content m.front (m.rest ++ rest) s.parts.1.0 m.element m.inner.stands away

-- ---- the laws

pub search_wide : (message : Message) (search : SearchRequest) (octets : List ℕ) → Says message octets → message.request ≡ request.Search search
    → search.scope ≢ BaseObject → is_wide octets ≡ true
unfolding is_wide
search_wide message search octets says is_search other =
    let o = operation_there message octets says in
    let tag : o.tag ≡ 0x63 = o.is_tag ∙ ap (λ (r : Request). request_tag (operation_for r)) is_search in
    let element : Elem 0x63 o.content o.front = subst (λ (t : ℕ). Elem t o.content o.front) tag o.element in
    let searches : SaysSearch search o.content = subst (λ (r : Request). SaysContent r o.content) is_search o.says in
    let begins : begins_search (operation_in octets) ≡ true = ap begins_search o.stands ∙ begins_is 0x63 o.content o.front o.rest element in
    let scope : is_of_base (scope_in (operation_in octets)) ≡ false = ap (λ (s : List ℕ). is_of_base (scope_in s)) o.stands ∙ scope_there search o.content o.front o.rest element searches other in
    ap (λ (b : Bool). b && not (is_of_base (scope_in (operation_in octets)))) begins ∙ ap (λ (b : Bool). true && not b) scope

only_search : (r : Request) → (request_tag (operation_for r) == 0x63) ≡ true → (search : SearchRequest) × (r ≡ request.Search search)
only_search (request.Search search) e = (search, refl)
only_search (request.Update (update.Modify modify)) e = absurd cc
only_search (request.Update (update.Add add)) e = absurd cc
only_search (request.Update (update.Delete delete)) e = absurd cc
only_search (request.Update (update.Rename rename)) e = absurd cc
only_search r e = absurd cc

pub wide_search : (message : Message) (octets : List ℕ) → Says message octets → is_wide octets ≡ true → (search : SearchRequest) × (message.request ≡ request.Search search)
unfolding is_wide
wide_search message octets says wide =
    let o = operation_there message octets says in
    let begins : begins_search (operation_in octets) ≡ true = (and_parts (begins_search (operation_in octets)) (not (is_of_base (scope_in (operation_in octets)))) wide).0 in
    let tag : (o.tag == 0x63) ≡ true = sym (ap begins_search o.stands ∙ begins_is o.tag o.content o.front o.rest o.element) ∙ begins in
    only_search message.request (sym (ap (λ (t : ℕ). t == 0x63) o.is_tag) ∙ tag)
