-- The result codes by their numbers (RFC 4511 4.1.9).
use Rattle.std.specs.Prelude.{◌≡◌, ℕ, Bool, true, false, refl, ◌==◌, if◌then◌else◌}
use Rattle.ldap_msg.specs.declared.operations.ResultCode.{ResultCode}
use Rattle.ldap_msg.specs.declared.operations.ResultCode.TheVariants as code
use Rattle.ldap_msg.specs.operations.OtherCodes.{is_other_code}

-- the number of a code
abbrev pub code_number : ResultCode → ℕ
code_number code.Success = 0
code_number code.ProtocolError = 2
code_number code.SizeLimitExceeded = 4
code_number code.CompareFalse = 5
code_number code.CompareTrue = 6
code_number code.AuthMethodNotSupported = 7
code_number code.AdminLimitExceeded = 11
code_number code.UnavailableCriticalExtension = 12
code_number code.NoSuchAttribute = 16
code_number code.UndefinedAttributeType = 17
code_number code.InappropriateMatching = 18
code_number code.ConstraintViolation = 19
code_number code.AttributeOrValueExists = 20
code_number code.InvalidAttributeSyntax = 21
code_number code.NoSuchObject = 32
code_number code.InvalidDnSyntax = 34
code_number code.InvalidCredentials = 49
code_number code.InsufficientAccessRights = 50
code_number code.UnwillingToPerform = 53
code_number code.NamingViolation = 64
code_number code.ObjectClassViolation = 65
code_number code.NotAllowedOnNonLeaf = 66
code_number code.NotAllowedOnRdn = 67
code_number code.EntryAlreadyExists = 68
code_number code.ObjectClassModsProhibited = 69
code_number (code.Other other) = other.number

-- the code with a name that has this number
abbrev pub named_code : ℕ → ResultCode
named_code number =
    if number == code_number code.Success then code.Success
    else if number == code_number code.ProtocolError then code.ProtocolError
    else if number == code_number code.SizeLimitExceeded then code.SizeLimitExceeded
    else if number == code_number code.CompareFalse then code.CompareFalse
    else if number == code_number code.CompareTrue then code.CompareTrue
    else if number == code_number code.AuthMethodNotSupported then code.AuthMethodNotSupported
    else if number == code_number code.AdminLimitExceeded then code.AdminLimitExceeded
    else if number == code_number code.UnavailableCriticalExtension then code.UnavailableCriticalExtension
    else if number == code_number code.NoSuchAttribute then code.NoSuchAttribute
    else if number == code_number code.UndefinedAttributeType then code.UndefinedAttributeType
    else if number == code_number code.InappropriateMatching then code.InappropriateMatching
    else if number == code_number code.ConstraintViolation then code.ConstraintViolation
    else if number == code_number code.AttributeOrValueExists then code.AttributeOrValueExists
    else if number == code_number code.InvalidAttributeSyntax then code.InvalidAttributeSyntax
    else if number == code_number code.NoSuchObject then code.NoSuchObject
    else if number == code_number code.InvalidDnSyntax then code.InvalidDnSyntax
    else if number == code_number code.InvalidCredentials then code.InvalidCredentials
    else if number == code_number code.InsufficientAccessRights then code.InsufficientAccessRights
    else if number == code_number code.UnwillingToPerform then code.UnwillingToPerform
    else if number == code_number code.NamingViolation then code.NamingViolation
    else if number == code_number code.ObjectClassViolation then code.ObjectClassViolation
    else if number == code_number code.NotAllowedOnNonLeaf then code.NotAllowedOnNonLeaf
    else if number == code_number code.NotAllowedOnRdn then code.NotAllowedOnRdn
    else if number == code_number code.EntryAlreadyExists then code.EntryAlreadyExists
    else code.ObjectClassModsProhibited

-- the code of this number, which is another code or one with a name
abbrev pub code_by : (number : ℕ) (other : Bool) → is_other_code number ≡ other → ResultCode
code_by number true is = code.Other (record { number = number; other = is })
code_by number false is = named_code number

-- the code of a number below 128
abbrev pub code_from : ℕ → ResultCode
code_from number = code_by number (is_other_code number) refl
