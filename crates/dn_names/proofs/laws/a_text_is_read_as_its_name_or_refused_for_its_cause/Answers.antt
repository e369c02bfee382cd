-- By the theorems.
use Rattle.dn_names.proofs.Theorems.{NameText-read_name, read_name-NameText, RdnText-read_rdn, read_rdn-RdnText, read_name-NameCause, read_rdn-NameCause}
use Rattle.dn_names.proofs.laws.a_text_is_read_as_its_name_or_refused_for_its_cause.Goals as goal

pub returns : goal.returns
returns c = record {
  ok = λ name text. (NameText-read_name name text, read_name-NameText name text);
  err = read_name-NameCause;
  rdn_ok = λ name text. (RdnText-read_rdn name text, read_rdn-RdnText name text);
  rdn_err = read_rdn-NameCause;
}
