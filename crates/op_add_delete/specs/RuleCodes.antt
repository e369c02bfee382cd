-- The result codes that tell which rule of entries is broken (RFC 4511 4.1.9 and appendix A).
use Rattle.acdf_filters.specs.aci_item.declared.entry_rule.EntryRule.{EntryRule}
use Rattle.acdf_filters.specs.aci_item.declared.entry_rule.EntryRule.TheVariants as rule
use Rattle.ldap_msg.specs.declared.operations.ResultCode.{ResultCode}
use Rattle.ldap_msg.specs.declared.operations.ResultCode.TheVariants as code

-- the code that tells of the broken rule
abbrev pub rule_code : EntryRule → ResultCode
rule_code rule.RdnValues = code.NotAllowedOnRdn
rule_code rule.StructuralClass = code.ObjectClassModsProhibited
rule_code rule.Classes = code.ObjectClassViolation
rule_code rule.Syntaxes = code.InvalidAttributeSyntax
rule_code rule.SingleValues = code.ConstraintViolation
rule_code rule.Place = code.NamingViolation
rule_code rule.Limits = code.AdminLimitExceeded
