-- What crates above may cite of names, their texts, their order and their keys.
pub use Rattle.dn_names.proofs.parsing.ParseLemmas.{read_name-NameText, read_rdn-RdnText, NameText-read_name, RdnText-read_rdn, SpellsName-written_of, text_fault-IsNameText, LeavesGrammar-from_text_fault}
pub use Rattle.dn_names.proofs.parsing.CauseLemmas.{read_name-NameCause, read_rdn-NameCause}
pub use Rattle.dn_names.proofs.parsing.SpelledInGrammar.{IsNameText-spelled}
pub use Rattle.dn_names.proofs.parsing.GrammarIsSpelled.{spelled-IsNameText}
pub use Rattle.dn_names.proofs.parsing.GoodNameLemmas.{IsGoodName-from_NameText, IsGoodName-from_RdnText, all_reverse}
pub use Rattle.dn_names.proofs.name.PrintedNameLemmas.{NameText-print_name}
pub use Rattle.dn_names.proofs.name.NameLaws.{SpellsName-unique, NameText-unique, NameText-print_name-from, read_name-print_name, drop-join, is_prefix_of-join, join-drop, is_same-name_key, IsGoodName-append, IsGoodName-drop}
pub use Rattle.dn_names.proofs.order.OrderLaws.{name_cmp_total, is_same-types_and_keys, is_prefix_of-types_and_keys, name_cmp-prefix}
pub use Rattle.dn_names.proofs.order.PathKeyLaws.{tied_octets, octets_cmp-path_key, is_prefix_of-path_key}
pub use Rattle.dn_names.proofs.parsing.FirstBadLemmas.{resolve-Part, resolve-TooMany, resolve-Ok}
pub use Rattle.dn_names.proofs.printing.PrintTextLemmas.{IsUtf8-print_name}
pub use Rattle.dn_names.proofs.resolve.NamingTextLemmas.{value_of-octets, is_utf8-naming_value, text_rdn, text_name}
