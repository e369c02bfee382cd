use Rattle.std.proofs.Common.{refl, sym}
use Rattle.acl_program.proofs.why.WhyLemmas.{LoadsContent-short, Performs-unexplained, Performs-why}
use Rattle.acl_program.proofs.why.tell_why.Goals as goal

-- a file that was read is not too long
pub print_why-requires : goal.print_why-requires
print_why-requires g c = record { short = LoadsContent-short _ _ _ _ _ _ c.as_slice.ensures.value c.in-Ok.ensures.exact }

-- it was read
pub returns-in-Ok-clause-performs : goal.returns-in-Ok-clause-performs
returns-in-Ok-clause-performs g c = rw (sym c.outside.view_is) (Performs-why _ _ _ _ _ _ c.as_slice.ensures.value c.in-Ok.ensures.exact c.print_why.ensures.ends refl)

-- it wasn't
pub returns-in-Err-clause-performs : goal.returns-in-Err-clause-performs
returns-in-Err-clause-performs g c = rw (sym c.outside.view_is) (
    Performs-unexplained c.args.name.now _ _ _ _ c.in-Err.ensures.exact c.print_trouble.ensures.ends refl)
