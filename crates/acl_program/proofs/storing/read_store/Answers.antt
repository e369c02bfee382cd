use Rattle.std.proofs.Common.{sym}
use Rattle.acl_program.proofs.storing.ReadyLemmas.{Readies-refused, Readies-stored, Readies-unstored}
use Rattle.acl_program.proofs.storing.read_store.Goals as goal

-- the changes were applied, and the store was cut
pub returns-in-Ok-cut_store-clause-readies : goal.returns-in-Ok-cut_store-clause-readies
returns-in-Ok-cut_store-clause-readies g c = rw (sym c.outside.view_is) (λ serving count before named loads opens.
    Readies-stored serving _ _ _ _ _ named loads _ _ _ opens c.as_slice-content.ensures.value c.in-Ok.ensures.exact _ _ c.whole_of.ensures c.in-Ok-cut_store.ensures)

-- it wasn't
pub returns-in-Ok-clause-readies : goal.returns-in-Ok-clause-readies
returns-in-Ok-clause-readies g c = rw (sym c.outside.view_is) (λ serving count before named loads opens.
    Readies-unstored serving _ _ _ _ _ named loads _ _ _ opens c.as_slice-content.ensures.value c.in-Ok.ensures.exact _ _ c.whole_of.ensures c.in-Err-cut_store.ensures)

-- the file of changes wasn't taken
pub returns-clause-readies : goal.returns-clause-readies
returns-clause-readies g c = rw (sym c.outside.view_is) (λ serving count before named loads opens.
    Readies-refused serving _ _ _ _ _ named loads _ _ opens c.as_slice-content.ensures.value c.in-Err.ensures.exact)
