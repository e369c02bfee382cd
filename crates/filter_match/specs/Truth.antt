-- What a search filter is of an entry (RFC 4511 4.5.1.7, X.511 7.8): True, False or Undefined, by the permission
-- FilterMatch on each type and on each value (X.501 18.2).
use Rattle.std.specs.Prelude.{ℕ, Bool, true, false, ◌&&◌, List, [], ◌∷◌, if◌then◌else◌}
use Rattle.std.specs.List.{list_any, list_all}
use Rattle.std.specs.Str.{bytes_eq}
use Rattle.std.specs.Cmp.Lexicographic.{slice_cmp}
use Rattle.std.specs.Ordering.{nat_cmp, is_ge, is_le}
use Rattle.dir_tree.specs.dn_names.name.Names.{Keyed}
use Rattle.dir_tree.specs.Entry.{EntryInformation, values_of, has_kind}
use Rattle.dir_tree.specs.EntryClasses.{oids_of_listed}
use Rattle.ldap_filter.specs.filter.Filters.{Filter, Filters}
use Rattle.ldap_filter.specs.filter.Filters.Filter.{And, Or, Not, Equal, Parts, AtLeast, AtMost, Present, Approx, Extensible}
use Rattle.ldap_filter.specs.filter.Filters.Filters.{Nil, Cons}
use Rattle.filter_match.specs.declared.truth.Truth.{Truth}
use Rattle.filter_match.specs.declared.truth.Truth.TheVariants.{True, False, Undefined}
use Rattle.filter_match.specs.Substrings.{is_substring}
use Rattle.filter_match.specs.Tests.{Assertion, Test, test_of}
use Rattle.filter_match.specs.Tests.Assertion.{HasKey, IsClass, IsAtLeast, IsAtMost, HasParts}
use Rattle.filter_match.specs.Tests.Test.{Nothing, IsThere, HasValue}

-- whether FilterMatch is granted on the type of a number, and on a value of it
pub record Permits : Type 0 where
  pub kind : ℕ → Bool
  pub value : ℕ → Keyed → Bool

-- ---- items

-- the value matches: equal keys; a listed class that is the asserted one or has it as a superclass; order by the octets
-- of the keys; parts in the key
unfoldable pub matches : Assertion → Keyed → Bool
matches (HasKey key) value = bytes_eq key value.key
matches (IsClass oid) value = list_any (bytes_eq oid) (oids_of_listed value.key)
matches (IsAtLeast key) value = is_ge (slice_cmp nat_cmp value.key key)
matches (IsAtMost key) value = is_le (slice_cmp nat_cmp value.key key)
matches (HasParts first middle last) value = is_substring value.key first middle last

-- the entry has a value that matches and for which FilterMatch is granted
unfoldable pub has_match : Permits → EntryInformation → ℕ → Assertion → Bool
has_match permits entry kind asserted =
    list_any (λ value. matches asserted value && permits.value kind value) (values_of kind entry.attributes)

-- an item is Undefined where FilterMatch on its type isn't granted
abbrev pub if_permitted : Permits → ℕ → Bool → Truth
if_permitted permits kind found = if permits.kind kind then (if found then True else False) else Undefined

-- presence asks for no permission on values
unfoldable pub test_truth : Permits → EntryInformation → Test → Truth
test_truth permits entry Nothing = Undefined
test_truth permits entry (IsThere kind) = if_permitted permits kind (has_kind kind entry.attributes)
test_truth permits entry (HasValue kind asserted) = if_permitted permits kind (has_match permits entry kind asserted)

-- ---- and, or, not

abbrev pub is_true : Truth → Bool
is_true True = true
is_true False = false
is_true Undefined = false

abbrev pub is_false : Truth → Bool
is_false True = false
is_false False = true
is_false Undefined = false

-- False if one is False, True if all are True, and otherwise Undefined; True of none (RFC 4526)
abbrev pub all_of : List Truth → Truth
all_of truths = if list_any is_false truths then False else if list_all is_true truths then True else Undefined

-- True if one is True, False if all are False, and otherwise Undefined; False of none (RFC 4526)
abbrev pub any_of : List Truth → Truth
any_of truths = if list_any is_true truths then True else if list_all is_false truths then False else Undefined

abbrev pub negated : Truth → Truth
negated True = False
negated False = True
negated Undefined = Undefined

-- what a filter is of an entry
abbrev mutual
  pub truth : Permits → EntryInformation → Filter → Truth
  truth permits entry (And members) = all_of (truths permits entry members)
  truth permits entry (Or members) = any_of (truths permits entry members)
  truth permits entry (Not member) = negated (truth permits entry member)
  truth permits entry (Equal kind value) = test_truth permits entry (test_of (Equal kind value))
  truth permits entry (Parts kind initial any final) = test_truth permits entry (test_of (Parts kind initial any final))
  truth permits entry (AtLeast kind value) = test_truth permits entry (test_of (AtLeast kind value))
  truth permits entry (AtMost kind value) = test_truth permits entry (test_of (AtMost kind value))
  truth permits entry (Present kind) = test_truth permits entry (test_of (Present kind))
  truth permits entry (Approx kind value) = test_truth permits entry (test_of (Approx kind value))
  truth permits entry (Extensible content) = test_truth permits entry (test_of (Extensible content))

  -- what each of the filters is
  pub truths : Permits → EntryInformation → Filters → List Truth
  truths permits entry Nil = []
  truths permits entry (Cons first rest) = truth permits entry first ∷ truths permits entry rest
