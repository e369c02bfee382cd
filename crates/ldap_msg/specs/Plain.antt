-- Plain replies: results with no matched name, whose messages have at most 17 octets (RFC 4511 4.1.1, 4.1.9).
use Rattle.std.specs.Prelude.{◌≡◌, []}
use Rattle.ldap_msg.specs.declared.kinds.LdapResult.{LdapResult}
use Rattle.ldap_msg.specs.declared.kinds.Reply.{Reply}
use Rattle.ldap_msg.specs.declared.kinds.Reply.TheVariants as reply

-- a result with no matched name
abbrev pub IsPlainResult : LdapResult → Type 0
IsPlainResult result = result.matched ≡ []

-- a reply that is such a result and no more
abbrev pub IsPlain : Reply → Type 0
IsPlain (reply.Entry name attributes) = ⊥
IsPlain (reply.Ended ending result) = IsPlainResult result
IsPlain (reply.Extended result name value) = ⊥
