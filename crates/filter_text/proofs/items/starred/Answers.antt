-- An asterisk alone, or parts round asterisks.
use Rattle.std.proofs.Common.{List, ℕ, Option, refl, sym, ap, ◌∙◌}
use Rattle.std.proofs.lemmas.Bool.{false≢true}
use Rattle.ldap_filter.specs.filter.Filters.Filter.{Parts}
use Rattle.filter_text.specs.Items.{part_of, any_of, parts_of}
use Rattle.filter_text.proofs.items.PartLemmas.{matched_by-alone, matched_by-parts}
use Rattle.filter_text.proofs.items.starred.Goals as goal

pub returns-then-are_empty : goal.returns-then-are_empty
returns-then-are_empty c =
    let alone = c.if-are_empty.ensures.yes refl in
    record { ok = matched_by-alone c.args.kind c.args.first.now c.args.rest.now alone.0 alone.1 }

pub returns : goal.returns
returns c =
    let kind = c.args.kind in
    let first = c.args.first.now in
    let rest = c.args.rest.now in
    record {
      ok =
          ap (λ (initial : Option (List ℕ)). Parts kind initial c.from_vec.result c.in_ok-any.field-0.last) c.in_ok-initial.ensures.ok
          ∙ ap (λ (any : List (List ℕ)). Parts kind (part_of first) any c.in_ok-any.field-0.last) (c.from_vec.ensures.exact ∙ c.in_ok-any.ensures.any)
          ∙ ap (λ (final : Option (List ℕ)). Parts kind (part_of first) (any_of (parts_of rest)) final) c.in_ok-any.ensures.last
          ∙ sym (matched_by-parts kind first rest (λ bare blank. false≢true (c.if-are_empty.ensures.no bare blank)));
    }
