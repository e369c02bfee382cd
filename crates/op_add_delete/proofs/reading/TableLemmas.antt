-- Tables of refusals in which nothing refuses, and the changes that they decide.
use Rattle.std.proofs.Common.{◌≡◌, List, Option, Some, None, refl}
use Rattle.dir_tree.specs.Entry.{EntryInformation}
use Rattle.acdf_filters.specs.aci_item.declared.entry_rule.EntryRule.{EntryRule}
use Rattle.acdf_filters.specs.aci_item.Rules.{IsGoodTree}
use Rattle.ldap_msg.specs.declared.kinds.LdapResult.{LdapResult}
use Rattle.op_add_delete.specs.adding.Adding.{rule_refusal}
use Rattle.op_add_delete.specs.adding.Updates.{Made, unless, left_by}

-- no rule is broken where none refuses
pub not_broken : (broken : Option EntryRule) → rule_refusal broken ≡ None → broken ≡ None
not_broken None is = refl
not_broken (Some rule) is = absurd cc

-- a change that may be refused leaves a good tree, where it does if it is made
pub unless-good :
    (refusal : Option LdapResult) (before after : List EntryInformation) → IsGoodTree before
    → (refusal ≡ None → IsGoodTree after) → IsGoodTree (left_by before (unless refusal after))
unless-good None before after good made = made refl
unless-good (Some refusal) before after good made = good

-- one that is made had no refusal
pub unless-made : (refusal : Option LdapResult) (after left : List EntryInformation) → unless refusal after ≡ Made left → refusal ≡ None
unless-made None after left is = refl
unless-made (Some refusal) after left is = absurd cc
