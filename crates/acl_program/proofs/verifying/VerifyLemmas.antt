-- Lemmas on certificates that are verified.
use Rattle.std.proofs.Common.{◌≡◌, ◌∙◌, ℕ, Bool, List, Result, Ok, Err, refl, inl, inr, subst}
use Rattle.std.specs.Prelude.{Vec}
use Rattle.std.specs.Global.{Global}
use Rattle.command_words.specs.command.Command.{Verify}
use Rattle.command_files.specs.dir_tree.tree.Numbered.{Numbered, entries_of}
use Rattle.command_files.specs.plain_values.Answers.{Answers}
use Rattle.command_files.specs.declared.loading.SecondFile.TheVariants as second
use Rattle.command_files.specs.loading.Accepting.{HoldsIn, IsContent, IsTooLong}
use Rattle.command_files.specs.loading.Loading.{LoadsCertificate, LoadsData}
use Rattle.certify.specs.Form.{cause_of}
use Rattle.certify.specs.Verifying.{verified}
use Rattle.certify.specs.declared.fault.CertFault.{CertFault}
use Rattle.certify.specs.declared.fault.CertFault.TheVariants.{Form, False, NoMemory}
use Rattle.command_files.proofs.Theorems.{HoldsIn-weaker, HoldsIn-fails}
use Rattle.acl_program.specs.declared.status.Status.{Status}
use Rattle.acl_program.specs.Answering.{IsBadCertificate, IsFalseCertificate, IsGoodCertificate, TellsValidity, valid_text}
use Rattle.acl_program.specs.Deciding.{EndsVerified, outcome_verified}
use Rattle.acl_program.specs.Outcomes.{BadLine, FalseLine, OutOfMemory}
use Rattle.acl_program.specs.program.Causes.{Comes, IsBadSecond, Links}
use Rattle.acl_program.specs.program.Outside.{Outside}
use Rattle.acl_program.specs.program.Playing.{Ends, Performs}
use Rattle.acl_program.proofs.program.PerformLemmas.{Performs-answered}

-- a certificate that is too long is bad
pub long_certificate : (rows : List Numbered) (line : ℕ) (content : List ℕ) → IsTooLong line content → IsBadSecond second.Certificate (entries_of rows) line content
unfolding IsBadCertificate
long_certificate rows line content long = inr long

-- what was found of a certificate whose file was read
module _ (name certificate : List ℕ) (before after : Outside) (middle : ℕ) (status : Status) (rows : List Numbered) (text : Vec ℕ Global)
    (loads : LoadsData before.shelf.files name before.shelf.faults middle (Ok rows))
    (reads : LoadsCertificate before.shelf.files certificate middle after.shelf.faults (Ok text)) (same : after.link ≡ before.link) where
  -- its content is the octets that were read
  holds_read : (P : List ℕ → Type 0) → ((content : List ℕ) → IsContent text.items content → P content) → HoldsIn before.shelf.files certificate P
  unfolding LoadsCertificate
  holds_read P all = HoldsIn-weaker before.shelf.files certificate (IsContent text.items) P all reads.0

  stays : after.shelf.faults ≡ before.shelf.faults
  unfolding LoadsData LoadsCertificate
  stays = reads.1 ∙ loads.2

  -- over the entries of the tree
  of_content : (expected : Result Bool CertFault) (content : List ℕ) → verified (entries_of rows) text.items ≡ expected → IsContent text.items content → verified (entries_of rows) content ≡ expected
  of_content expected content is read = subst (λ octets. verified (entries_of rows) octets ≡ expected) read.is is

  performs_found : (found : Result Bool CertFault) → Answers (λ granted. granted) cause_of found (verified (entries_of rows) text.items)
      → Ends (outcome_verified found) before.out status after.out → Performs (Verify name certificate) before status after
  unfolding Performs LoadsData Comes Links IsBadCertificate IsFalseCertificate
  performs_found (Ok granted) is ends =
      let tells : TellsValidity name certificate (HoldsIn before.shelf.files) (valid_text granted) = record {
        granted = granted;
        entries = entries_of rows;
        good = loads.0;
        valid = holds_read (IsGoodCertificate (entries_of rows) granted) (λ content read. record { short = read.short; valid = of_content (Ok granted) content is read });
        is = refl;
      } in
      Performs-answered (Verify name certificate) (valid_text granted) before after status tells stays ends same
  performs_found (Err (Form line)) is ends = (
    BadLine second.Certificate line,
    (λ words asked. (
      record {
        name = certificate;
        entries = entries_of rows;
        asked = record { command = Verify name certificate; data_file = name; asked = asked; has_data = refl; has_second = refl; good = loads.0 };
        bad = HoldsIn-fails before.shelf.files certificate (IsBadSecond second.Certificate (entries_of rows) line)
            (holds_read (IsBadSecond second.Certificate (entries_of rows) line) (λ content read. inl (read.short, of_content (Err (Form line)) content is read)));
      },
      stays,
    )),
    ends,
    λ words asked. same,
  )
  performs_found (Err (False line)) is ends = (
    FalseLine line,
    (λ words asked. (
      record {
        data_file = name;
        certificate = certificate;
        entries = entries_of rows;
        asked = asked;
        good = loads.0;
        refuted = holds_read (IsFalseCertificate (entries_of rows) line) (λ content read. (read.short, of_content (Err (False line)) content is read));
      },
      stays,
    )),
    ends,
    λ words asked. same,
  )
  performs_found (Err NoMemory) is ends = (OutOfMemory, (λ words asked. stays), ends, λ words asked. inl same)

  pub Performs-verified : (lent : List ℕ) → lent ≡ text.items → EndsVerified (entries_of rows) lent before.out status after.out → Performs (Verify name certificate) before status after
  Performs-verified lent is ended =
      let Q : List ℕ → Type 0 = λ octets. Answers (λ granted. granted) cause_of ended.found (verified (entries_of rows) octets) in
      performs_found ended.found (subst Q is ended.is) ended.ends
