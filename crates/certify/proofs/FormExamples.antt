-- Texts that are in the form of a certificate or aren't, on known cases.
use Rattle.std.proofs.Common.{◌≡◌, [], Err, refl}
use Rattle.certify.specs.declared.fault.CertFault.TheVariants.{Form}
use Rattle.certify.specs.Form.{form_of}
use Rattle.line_text.specs.Lines.{lines_of, rest_of}

-- a text without a line
no_line : form_of [] ≡ Err (Form 1)
unfolding form_of lines_of rest_of
no_line = refl
