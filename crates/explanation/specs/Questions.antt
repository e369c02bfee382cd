-- One question to the access control decision function (X.501 18.8.1), as plain values.
use Rattle.dir_tree.specs.dn_names.name.Names.{RdnSequence}
use Rattle.acdf_filters.specs.aci_item.declared.permission.Permission.{Permission}
use Rattle.acdf_filters.specs.declared.asking.Requester.{Requester}
use Rattle.acdf_filters.specs.Asking.{Protected, Entry, Kind, Value}
use Rattle.explanation.specs.declared.asked.AskedDecision.{AskedDecision}
use Rattle.explanation.specs.declared.asked.AskedItem.{AskedItem}
use Rattle.explanation.specs.declared.asked.AskedItem.TheVariants as asked

-- who asks, on which entry, on what of it, and for which permission
pub record Question : Type 0 where
  pub who : Requester
  pub target : RdnSequence
  pub item : Protected
  pub permission : Permission

-- the item that is asked for
abbrev pub item_asked : AskedItem → Protected
item_asked asked.Entry = Entry
item_asked (asked.Kind kind) = Kind kind.0
item_asked (asked.Value kind value) = Value kind.0 value

-- the question that a program holds
abbrev pub question_view : AskedDecision → Question
question_view decision = record {
  who = decision.who;
  target = decision.target;
  item = item_asked decision.item;
  permission = decision.permission;
}
