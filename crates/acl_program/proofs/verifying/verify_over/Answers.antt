use Rattle.std.proofs.Common.{refl, sym}
use Rattle.command_words.specs.command.Command.{Verify}
use Rattle.command_files.specs.declared.loading.SecondFile.TheVariants as second
use Rattle.command_files.specs.loading.Accepting.{IsTooLong}
use Rattle.command_files.specs.loading.Loading.{LoadsCertificate}
use Rattle.acl_program.specs.program.Causes.{second_named}
use Rattle.acl_program.proofs.program.PerformLemmas.{Performs-second_refused}
use Rattle.acl_program.proofs.verifying.VerifyLemmas.{Performs-verified, long_certificate}
use Rattle.acl_program.proofs.verifying.verify_over.Goals as goal

-- the certificate was read
pub returns-in-Ok-clause-performs : goal.returns-in-Ok-clause-performs
returns-in-Ok-clause-performs g c = rw (sym c.outside.view_is) (λ name before loads.
    Performs-verified name _ _ _ _ _ _ _ loads c.in-Ok.ensures.exact refl _ c.as_slice.ensures.value c.verify_text.ensures.ends)

-- it wasn't
pub returns-in-Err-clause-performs : goal.returns-in-Err-clause-performs
unfolding LoadsCertificate
returns-in-Err-clause-performs g c = rw (sym c.outside.view_is) (λ name before loads.
    Performs-second_refused (Verify name c.args.certificate.now) name (second_named second.Certificate c.args.certificate.now) IsTooLong _ _ _ _ _ _
    refl refl (long_certificate _) loads c.in-Err.ensures.exact c.print_trouble.ensures.ends refl)
