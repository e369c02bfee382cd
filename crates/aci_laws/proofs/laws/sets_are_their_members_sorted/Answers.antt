-- Each set that is read is its members, sorted.
use Rattle.subtree_spec.specs.SubtreePrinted.{print_subtree}
use Rattle.aci_item.specs.members.ItemParts.{user, kind, kind_and_value, class_subtree}
use Rattle.aci_item.specs.members.Limits.{max_value_count, restricted_value}
use Rattle.aci_item.specs.ItemPrinted.{print_user, print_kind, print_value, print_max_value_count, print_restricted_value, print_item_permission, print_user_permission}
use Rattle.aci_item.specs.AciText.{item_permission, user_permission}
use Rattle.aci_laws.proofs.laws.MembersLemmas.{sorted_set-sorted}
use Rattle.aci_laws.proofs.laws.sets_are_their_members_sorted.Goals as goal

pub returns-clause-users : goal.returns-clause-users
returns-clause-users c = λ shape bad. sorted_set-sorted print_user user shape bad

pub returns-clause-kinds : goal.returns-clause-kinds
returns-clause-kinds c = λ shape bad. sorted_set-sorted print_kind kind shape bad

pub returns-clause-values : goal.returns-clause-values
returns-clause-values c = λ shape bad. sorted_set-sorted print_value kind_and_value shape bad

pub returns-clause-max_counts : goal.returns-clause-max_counts
returns-clause-max_counts c = λ shape bad. sorted_set-sorted print_max_value_count max_value_count shape bad

pub returns-clause-restricted : goal.returns-clause-restricted
returns-clause-restricted c = λ shape bad. sorted_set-sorted print_restricted_value restricted_value shape bad

pub returns-clause-subtrees : goal.returns-clause-subtrees
returns-clause-subtrees c = λ shape bad. sorted_set-sorted print_subtree class_subtree shape bad

pub returns-clause-item_permissions : goal.returns-clause-item_permissions
returns-clause-item_permissions c = λ shape bad. sorted_set-sorted print_item_permission item_permission shape bad

pub returns-clause-user_permissions : goal.returns-clause-user_permissions
returns-clause-user_permissions c = λ shape bad. sorted_set-sorted print_user_permission user_permission shape bad
