-- A value's key is its prepared octets, and those of ASCII are known.
use Rattle.std.proofs.Common.{Some, ap, ◌∙◌}
use Rattle.match_rules.specs.declared.rules.Rule.TheVariants.{Text, Ascii, Phone, Country}
use Rattle.match_rules.proofs.laws.AsciiLemmas.{prepared_text-ascii}
use Rattle.match_rules.proofs.keys.KeysLemmas.{key_of-value}
use Rattle.match_rules.proofs.laws.LawsLemmas.{prepared-phone, prepared-country}
use Rattle.match_rules.proofs.keys.SyntaxesLemmas.{IsAscii-printable}
use Rattle.match_rules.proofs.laws.ascii_key_law.Goals as goal

pub returns-clause-text : goal.returns-clause-text
returns-clause-text c = λ octets is ascii. key_of-value Text octets is ∙ ap Some (prepared_text-ascii octets ascii)

pub returns-clause-ascii : goal.returns-clause-ascii
returns-clause-ascii c = λ octets is. key_of-value Ascii octets is ∙ ap Some (prepared_text-ascii octets is.1)

pub returns-clause-phone : goal.returns-clause-phone
returns-clause-phone c = λ octets is. key_of-value Phone octets is ∙ ap Some (prepared-phone octets (IsAscii-printable octets is.1))

pub returns-clause-country : goal.returns-clause-country
returns-clause-country c = λ octets is. key_of-value Country octets is ∙ ap Some (prepared-country octets is.1)
