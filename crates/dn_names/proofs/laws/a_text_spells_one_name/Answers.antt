-- By the theorems.
use Rattle.dn_names.proofs.Theorems.{IsNameText-spelled, spelled-IsNameText, SpellsName-unique, read_name-NameText, read_rdn-RdnText}
use Rattle.dn_names.proofs.laws.a_text_spells_one_name.Goals as goal

pub returns : goal.returns
returns c = record {
  spelled = IsNameText-spelled;
  found = spelled-IsNameText;
  only = SpellsName-unique;
  exact = read_name-NameText;
  rdn = read_rdn-RdnText;
}
