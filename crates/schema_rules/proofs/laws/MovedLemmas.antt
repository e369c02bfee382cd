-- Good entries stay so where an entry below which none stands gets a free name below an entry that is left.
use Rattle.std.proofs.Common.{◌≡◌, ◌≢◌, false, List, [], None, Some}
use Rattle.dir_tree.specs.dn_names.name.GoodNames.{IsGoodName}
use Rattle.dir_tree.specs.Entry.{EntryInformation, IsGoodAttributes}
use Rattle.dir_tree.specs.tree.Trees.{has_name, has_below, named_in, lacks_superior, put_in, taken_out}
use Rattle.aci_item.specs.Rules.{broken_rule, AreGood}
use Rattle.schema_rules.proofs.laws.StayLemmas.{AreGood-put_in}
use Rattle.schema_rules.proofs.laws.TakenLemmas.{AreGood-taken_out}
use Rattle.schema_rules.proofs.laws.InPlaceLemmas.{unbroken_as_new}

-- out, and in again under the new name
pub AreGood-moved :
    (entries : List EntryInformation) (old new : EntryInformation) → AreGood entries → named_in old.name entries ≡ Some old
    → has_below old.name entries ≡ false → new.name ≢ [] → has_name new.name (taken_out old.name entries) ≡ false
    → lacks_superior new.name (taken_out old.name entries) ≡ false → IsGoodName new.name → IsGoodAttributes new.attributes
    → broken_rule (Some old) (taken_out old.name entries) new ≡ None → AreGood (put_in new (taken_out old.name entries))
AreGood-moved entries old new good known alone named absent has name attributes unbroken =
    AreGood-put_in (taken_out old.name entries) new (AreGood-taken_out old entries good known alone) named name attributes absent
    has (unbroken_as_new old new (taken_out old.name entries) unbroken)
