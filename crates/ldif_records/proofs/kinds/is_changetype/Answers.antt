use Rattle.std.proofs.lemmas.Bool.Decides.{same_from_decides}
use Rattle.std.proofs.lemmas.Slice.Eq.{bytes_eq-Decides}
use Rattle.ldif_records.specs.Fields.{is_changetype}
use Rattle.ldif_records.proofs.kinds.is_changetype.Goals as goal

pub returns : goal.returns
unfolding is_changetype
returns c = same_from_decides c.eq_ignore_ascii_case.result _ c.eq_ignore_ascii_case.ensures.test (bytes_eq-Decides _ _)
