-- The laws are proved of the definitions.
use Rattle.acdf_filters.proofs.laws.UnseenLaw.{granted-without, granted_after-without, granted_new-without}
use Rattle.acdf_filters.proofs.laws.an_unseen_subtree_changes_no_decision.Goals as goal

pub returns : goal.returns
returns c = record { there = granted-without; after = granted_after-without; new = granted_new-without }
