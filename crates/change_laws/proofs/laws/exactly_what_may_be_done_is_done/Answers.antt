-- By the theorems.
use Rattle.change_laws.proofs.laws.DeleteLemmas.{deleted-may, may-deleted}
use Rattle.change_laws.proofs.laws.DoneLemmas.{added-may, may-added}
use Rattle.change_laws.proofs.laws.exactly_what_may_be_done_is_done.Goals as goal

pub returns : goal.returns
returns c = record { deleted = deleted-may; only_deleted = may-deleted; added = added-may; only_added = may-added }
