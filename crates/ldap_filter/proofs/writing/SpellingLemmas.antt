-- A written filter says itself.
use Rattle.std.proofs.Common.{◌≡◌, ℕ, ◌+◌, ◌<◌, ◌≤◌, List, [], ◌∷◌, ◌++◌, length, Option, Some, None, refl, sym, ap, ◌∙◌, append_assoc, append-nil, take, get_or, true}
use Rattle.std.proofs.lemmas.List.{take_more}
use Rattle.std.specs.List.{AllByRecursion}
use Rattle.ber_elements.specs.write.Element.{Elem, IsTag}
use Rattle.ber_layout.specs.components.Components.{Follows}
use Rattle.ber_layout.specs.Spellings.{element_octets}
use Rattle.ber_layout.specs.Layouts.{Layout, Value, Says as SaysLayout, IsShort, MayFit, writes, is_clear}
use Rattle.ber_layout.specs.Ranges.{Within}
use Rattle.ber_layout.proofs.Theorems.{element_spells, writes_says, fits_within, content_short, front_short, back_short}
use Rattle.ldap_filter.specs.filter.Filters.{Filter, Filters, filters_of}
use Rattle.ldap_filter.specs.filter.Filters.Filter.{And, Or, Not, Equal, Parts, AtLeast, AtMost, Present, Approx, Extensible}
use Rattle.ldap_filter.specs.filter.Filters.Filters.{Nil, Cons}
use Rattle.ldap_filter.specs.Assertion.{assertion_layout}
use Rattle.ldap_filter.specs.reading.FilterLayouts.{parts_layout, IsSome, SaysFilter, SaysFilters}
use Rattle.ldap_filter.specs.FilterSpelling.{filter_tag, filter_content, members_octets, filter_octets, HasParts, HaveParts}

-- ---- the filter's elements, one more at a time

pub members_more : (members : List Filter) (member : Filter) → members_octets (filters_of (members ++ member ∷ [])) ≡ members_octets (filters_of members) ++ element_octets (filter_tag member) (filter_content member)
members_more [] member = append-nil (element_octets (filter_tag member) (filter_content member))
members_more (first ∷ rest) member =
    ap (λ (s : List ℕ). element_octets (filter_tag first) (filter_content first) ++ s) (members_more rest member)
    ∙ sym (append_assoc (element_octets (filter_tag first) (filter_content first)) (members_octets (filters_of rest)) (element_octets (filter_tag member) (filter_content member)))

-- the same, of a list by its index
pub members_at : (members : List Filter) (i : ℕ) (member : Filter) → i < length members → member ≡ get_or members i member
    → members_octets (filters_of (take (i + 1) members)) ≡ members_octets (filters_of (take i members)) ++ element_octets (filter_tag member) (filter_content member)
members_at members i member within is =
    ap (λ (l : List Filter). members_octets (filters_of l)) (take_more members i member within ∙ ap (λ (v : Filter). take i members ++ v ∷ []) (sym is))
    ∙ members_more (take i members) member

-- ---- a written filter says itself

-- octets are in no range
may_within : (value : Option (List ℕ)) → MayFit (λ (octets : List ℕ). Unit {0}) value
may_within None = tt
may_within (Some octets) = tt

all_within : (values : List (List ℕ)) → AllByRecursion (λ (octets : List ℕ). Unit {0}) values
all_within [] = tt
all_within (first ∷ rest) = (tt, all_within rest)

pub spelled : (l : Layout) → is_clear l ≡ true → (parts : Value l) → Within l parts → IsShort (writes l parts) → SaysLayout l parts (writes l parts)
spelled l clear parts within short = writes_says l parts clear (fits_within l parts within short)

tag_is : (f : Filter) → IsTag (filter_tag f)
tag_is (And members) = λ e. absurd cc
tag_is (Or members) = λ e. absurd cc
tag_is (Not member) = λ e. absurd cc
tag_is (Equal kind value) = λ e. absurd cc
tag_is (Parts kind initial any final) = λ e. absurd cc
tag_is (AtLeast kind value) = λ e. absurd cc
tag_is (AtMost kind value) = λ e. absurd cc
tag_is (Present kind) = λ e. absurd cc
tag_is (Approx kind value) = λ e. absurd cc
tag_is (Extensible content) = λ e. absurd cc

mutual
  pub filter_spells : (f : Filter) → HasParts f → IsShort (filter_content f) → SaysFilter f (filter_octets f)
  filter_spells (And members) has short = (refl, members_spell members has short)
  filter_spells (Or members) has short = (refl, members_spell members has short)
  filter_spells (Not member) has short =
      let content = filter_content member in
      let less = content_short (filter_tag member) content short in (
        refl,
        (
          filter_tag member,
          record {
            content = content;
            front = element_octets (filter_tag member) content;
            rest = [];
            element = element_spells (filter_tag member) content (tag_is member) less;
            inner = filter_spells member has less;
            next = refl;
            joins = sym (append-nil (element_octets (filter_tag member) content));
          },
        ),
      )
  filter_spells (Equal kind value) has short = (refl, spelled assertion_layout refl (kind, (value, tt)) (tt, (tt, tt)) short)
  filter_spells (Parts kind initial any final) has short =
      (refl, (has, spelled parts_layout refl (kind, ((initial, (any, (final, tt))), tt)) (tt, ((may_within initial, (all_within any, (may_within final, tt))), tt)) short))
  filter_spells (AtLeast kind value) has short = (refl, spelled assertion_layout refl (kind, (value, tt)) (tt, (tt, tt)) short)
  filter_spells (AtMost kind value) has short = (refl, spelled assertion_layout refl (kind, (value, tt)) (tt, (tt, tt)) short)
  filter_spells (Present kind) has short = (refl, refl)
  filter_spells (Approx kind value) has short = (refl, spelled assertion_layout refl (kind, (value, tt)) (tt, (tt, tt)) short)
  filter_spells (Extensible content) has short = (refl, refl)

  pub members_spell : (fs : Filters) → HaveParts fs → IsShort (members_octets fs) → SaysFilters fs (members_octets fs)
  members_spell Nil has short = refl
  members_spell (Cons first rest) has short =
      let content = filter_content first in
      let front = element_octets (filter_tag first) content in
      let less = content_short (filter_tag first) content (front_short front (members_octets rest) short) in (
        filter_tag first,
        record {
          content = content;
          front = front;
          rest = members_octets rest;
          element = element_spells (filter_tag first) content (tag_is first) less;
          inner = filter_spells first has.0 less;
          next = members_spell rest has.1 (back_short front (members_octets rest) short);
          joins = refl;
        },
      )
