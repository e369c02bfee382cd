-- Lemmas on second files that are accepted: they aren't refused, and say one thing.
use Rattle.std.proofs.Common.{◌≡◌, ℕ, Bool, List, arith, inl, inr}
use Rattle.command_files.specs.script_text.declared.event.ScriptEvent.{ScriptEvent}
use Rattle.command_files.specs.client_core.declared.types.Asked.{Asked}
use Rattle.command_files.specs.declared.loading.SecondFile.{SecondFile}
use Rattle.command_files.specs.declared.loading.SecondFile.TheVariants as second
use Rattle.command_files.specs.dir_tree.Entry.{EntryInformation}
use Rattle.command_files.specs.loading.Accepting.{IsGoodScript, IsGoodRequests}
use Rattle.command_files.proofs.Theorems.{good_not_bad, requests_not_bad}
use Rattle.acl_program.specs.Answering.{IsGoodCertificate, IsBadCertificate, IsFalseCertificate}
use Rattle.acl_program.specs.program.Causes.{IsBadSecond}

-- a certificate that is accepted isn't refused
certificate_not_bad : (entries : List EntryInformation) (granted : Bool) (line : ℕ) (content : List ℕ) → IsGoodCertificate entries granted content → IsBadCertificate entries line content → ⊥
unfolding IsBadCertificate
certificate_not_bad entries granted line content good (inl bad) = cc (good.valid, bad.1)
certificate_not_bad entries granted line content good (inr long) = omega (arith, good.short, long.0)

pub certificate_not_false : (entries : List EntryInformation) (granted : Bool) (line : ℕ) (content : List ℕ) → IsGoodCertificate entries granted content → IsFalseCertificate entries line content → ⊥
unfolding IsFalseCertificate
certificate_not_false entries granted line content good refuted = cc (good.valid, refuted.1)

pub one_granted : (entries : List EntryInformation) (granted other : Bool) (content : List ℕ) → IsGoodCertificate entries granted content → IsGoodCertificate entries other content → granted ≡ other
one_granted entries granted other content good good_other = cc (good.valid, good_other.valid)

-- a second file that is accepted, over the entries of the data file
unfoldable pub IsGoodSecond : SecondFile → List EntryInformation → List ℕ → Type 0
IsGoodSecond second.Script entries content = (events : List ScriptEvent) × IsGoodScript events content
IsGoodSecond second.Requests entries content = (asks : List Asked) × IsGoodRequests asks content
IsGoodSecond second.Certificate entries content = (granted : Bool) × IsGoodCertificate entries granted content

pub second_not_bad : (kind : SecondFile) (entries : List EntryInformation) (line : ℕ) (content : List ℕ) → IsGoodSecond kind entries content → IsBadSecond kind entries line content → ⊥
unfolding IsGoodSecond
second_not_bad second.Script entries line content good bad = good_not_bad good.0 line content good.1 bad
second_not_bad second.Requests entries line content good bad = requests_not_bad good.0 line content good.1 bad
second_not_bad second.Certificate entries line content good bad = certificate_not_bad entries good.0 line content good.1 bad
