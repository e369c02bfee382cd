-- What crates above may cite.
-- when octets and parts have a key, and which
pub use Rattle.match_rules.proofs.keys.KeysLemmas.{key_of-value, key_of-other, key_of-Some, part_key_of-part, part_key_of-other}
-- the tests of syntaxes tell their facts
pub use Rattle.match_rules.proofs.keys.SyntaxesLemmas.{is_of-Decides, is_part_of-Decides, IsUtf8-value, IsUtf8-part}
-- the laws of keys of ASCII octets
pub use Rattle.match_rules.proofs.laws.AsciiLemmas.{prepared_text-ascii}
pub use Rattle.match_rules.proofs.laws.LawsLemmas.{prepared-phone, prepared-country, key_of-case, key_of-key, key_of-plain}
-- the order of keys
pub use Rattle.match_rules.proofs.laws.OrderLemmas.{slice_cmp-IsBefore}
-- octets that are their own key, and texts of ASCII
pub use Rattle.match_rules.proofs.own.OwnLemmas.{key_of-own}
pub use Rattle.match_rules.proofs.own.LowerLemmas.{is_utf8-ascii}
