-- The numbers of the result codes that tell which rule of entries is broken (RFC 4511 4.1.9 and appendix A).
use Rattle.std.specs.Prelude.{ℕ}
use Rattle.aci_item.specs.declared.entry_rule.EntryRule.{EntryRule}
use Rattle.aci_item.specs.declared.entry_rule.EntryRule.TheVariants.{RdnValues, StructuralClass, Classes, Syntaxes, SingleValues, Place, Limits}

-- the number of the result code that tells of the broken rule
abbrev pub rule_number : EntryRule → ℕ
rule_number RdnValues = 67  -- notAllowedOnRDN
rule_number StructuralClass = 69  -- objectClassModsProhibited
rule_number Classes = 65  -- objectClassViolation
rule_number Syntaxes = 21  -- invalidAttributeSyntax
rule_number SingleValues = 19  -- constraintViolation
rule_number Place = 64  -- namingViolation
rule_number Limits = 11  -- adminLimitExceeded
