-- The value is UTF-8.
use Rattle.std.proofs.Common.{rules}
use Rattle.std.proofs.lemmas.Str.{IsUtf8-from_is_utf8}
use Rattle.aci_item.proofs.protected.AttributeTypeAndValue.text.Goals as goal

pub as_text-requires : goal.as_text-requires
as_text-requires c = search (rules, IsUtf8-from_is_utf8)
