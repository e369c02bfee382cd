-- The element of one member more was appended.
use Rattle.std.proofs.Common.{◌∙◌, ◌++◌, List, ℕ, sym, ap, take, append_assoc}
use Rattle.ber_layout.specs.Spellings.{element_octets}
use Rattle.ldap_filter.specs.filter.Filters.{filters_of}
use Rattle.ldap_filter.specs.FilterSpelling.{filter_tag, filter_content, members_octets}
use Rattle.ldap_filter.proofs.writing.SpellingLemmas.{members_at}
use Rattle.ldap_filter.proofs.writing.+put_filter.Goals as goal

pub put_node-loop-member-preserved : goal.put_node-loop-member-preserved
put_node-loop-member-preserved t c =
    let old = c.args.out.now.items in
    let members = c.deref-member-items.result.now in
    let done = members_octets (filters_of (take c.loop-member.member-index members)) in
    let one = element_octets (filter_tag c.member-item.result) (filter_content c.member-item.result) in
    c.in_ok-put_filter-in-And.ensures.ok
    ∙ ap (λ (s : List ℕ). s ++ one) c.loop-member.invariant
    ∙ append_assoc old done one
    ∙ ap (λ (s : List ℕ). old ++ s) (sym (members_at members c.loop-member.member-index c.member-item.result c.loop-member-test.true c.member-item.is))
