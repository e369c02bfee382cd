-- Whether a text is the certificate of a decision over the entries of a tree: it is in the form, and its lines are those of
-- the certificate of what its first four lines ask.
use Rattle.std.specs.Prelude.{ℕ, Bool, List, Option, Some, None, Result, Ok, Err}
use Rattle.dir_tree.specs.plain_values.Results.{◌>>=◌}
use Rattle.dir_tree.specs.Entry.{EntryInformation}
use Rattle.dir_tree.specs.tree.Trees.{named_in}
use Rattle.acdf_filters.specs.Asking.{asked_on}
use Rattle.acdf_filters.specs.Granted.{granted}
use Rattle.line_text.specs.Lines.{lines_of}
use Rattle.explanation.specs.Questions.{Question}
use Rattle.certify.specs.declared.fault.CertFault.{CertFault}
use Rattle.certify.specs.declared.fault.CertFault.TheVariants.{False}
use Rattle.certify.specs.Lines.{Line}
use Rattle.certify.specs.Certificate.{certificate}
use Rattle.certify.specs.Comparing.{compared}
use Rattle.certify.specs.Form.{form_of}

-- the lines that a question's certificate has on an entry
abbrev pub asked_lines : List EntryInformation → Question → EntryInformation → List Line
asked_lines entries question entry = certificate entries (asked_on question.who entry question.item question.permission) entry

-- what is decided on the entry of the target, where the lines are those of the certificate
abbrev pub checked : List EntryInformation → List (List ℕ) → Question → Option EntryInformation → Result Bool CertFault
checked entries lines question None = Err (False 2)
checked entries lines question (Some entry) =
    compared 1 lines (asked_lines entries question entry) >>= λ same. Ok (granted entries question.who entry question.item question.permission)

-- what a certificate's text says was decided, or its first fault: in the form, then in what its lines say
unfoldable pub verified : List EntryInformation → List ℕ → Result Bool CertFault
verified entries text =
    form_of text >>= λ question. checked entries (lines_of text) question (named_in question.target entries)
