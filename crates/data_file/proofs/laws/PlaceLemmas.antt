-- An entry that meets the rules among all others meets them among those before it, and is placed after them.
use Rattle.std.proofs.Common.{◌≡◌, ◌≢◌, ℕ, ◌+◌, ◌≤◌, nat_le, Bool, true, false, ◌&&◌, ◌||◌, List, [], ◌∷◌, ◌++◌, length, filter, find, Option, Some, None, Ok, refl, sym, ap, ◌∙◌, arith}
use Rattle.std.specs.List.{AllByRecursion}
use Rattle.std.specs.Option.{option_or}
use Rattle.std.proofs.lemmas.Bool.{or_parts, or_from}
use Rattle.std.proofs.lemmas.List.{length-append}
use Rattle.std.proofs.lemmas.List.Elements.{filter-append}
use Rattle.std.proofs.lemmas.List.Folds.{find-append}
use Rattle.dir_tree.specs.dn_names.NameOrder.{is_same}
use Rattle.dir_tree.specs.Entry.{EntryInformation}
use Rattle.dir_tree.specs.Points.{is_access_subentry, access_subentries}
use Rattle.dir_tree.specs.tree.Trees.{has_name, lacks_superior, superior_name, IsInOrder, IsRooted}
use Rattle.dir_tree.proofs.TreeTheorems.{Less-from_before, superior_before}
use Rattle.aci_item.specs.Rules.{broken_rule, stands_wrong, is_misplaced, is_past_limits}
use Rattle.ldif_load.proofs.schema_rules_proofs.Theorems.{nothing_found, Meets-from_broken_rule, broken_rule-from_Meets, fewer}
use Rattle.ldif_load.specs.load.Loading.{ruled, placed}
use Rattle.data_file.proofs.laws.OrderLemmas.{before_place, after_place, apart-before, has_name-after, lacks_superior-front}

-- the superior is not looked for after the entry
or_none : {X : Type 0} (found : Option X) → option_or found None ≡ found
or_none None = refl
or_none (Some x) = refl

misplaced-front :
    (front back : List EntryInformation) (entry : EntryInformation)
    → AllByRecursion (λ (later : EntryInformation). is_same (superior_name entry.name) later.name ≡ false) back
    → is_misplaced None front entry ≡ is_misplaced None (front ++ back) entry
unfolding is_misplaced
misplaced-front front back entry apart =
    let test : EntryInformation → Bool = λ other. is_same (superior_name entry.name) other.name in
    ap (λ superior. stands_wrong superior entry || false)
    (sym (find-append test front back ∙ ap (option_or (find test front)) (nothing_found test back apart) ∙ or_none (find test front)))

-- fewer entries are within the limits too
fewer_and : (mine : Bool) (most few many : ℕ) → few ≤ many → (mine && nat_le most many) ≡ false → (mine && nat_le most few) ≡ false
fewer_and true most few many less none = fewer most few many less none
fewer_and false most few many less none = refl

past_limits-front :
    (front back : List EntryInformation) (entry : EntryInformation) → is_past_limits (front ++ back) entry ≡ false
    → is_past_limits front entry ≡ false
unfolding is_past_limits
past_limits-front front back entry within =
    let parts = or_parts _ _ within in
    let counts = or_parts _ _ parts.0 in
    let len : length (front ++ back) ≡ length front + length back = length-append front back in
    let subentries : access_subentries (front ++ back) ≡ access_subentries front + access_subentries back =
    ap length (filter-append is_access_subentry front back)
    ∙ length-append (filter is_access_subentry front) (filter is_access_subentry back) in
    or_from _ _
    (or_from _ _ (fewer 200000 (length front) (length (front ++ back)) (omega arith) counts.0)
    (fewer_and (is_access_subentry entry) 256 (access_subentries front) (access_subentries (front ++ back)) (omega arith) counts.1))
    parts.1

-- so each rule
pub broken_rule-front :
    (front back : List EntryInformation) (entry : EntryInformation)
    → AllByRecursion (λ (later : EntryInformation). is_same (superior_name entry.name) later.name ≡ false) back
    → broken_rule None (front ++ back) entry ≡ None → broken_rule None front entry ≡ None
broken_rule-front front back entry apart unbroken =
    let meets = Meets-from_broken_rule None (front ++ back) entry unbroken in
    broken_rule-from_Meets None front entry (record {
      own_values = meets.own_values;
      structural = meets.structural;
      classes = meets.classes;
      syntaxes = meets.syntaxes;
      single = meets.single;
      placed = misplaced-front front back entry apart ∙ meets.placed;
      limits = past_limits-front front back entry meets.limits;
    })

-- the entry joins those before it
pub placed-front :
    (front back : List EntryInformation) (line : ℕ) (entry : EntryInformation) → IsInOrder (front ++ entry ∷ back)
    → IsRooted (front ++ entry ∷ back) → entry.name ≢ [] → broken_rule None (front ++ back) entry ≡ None
    → placed front line entry ≡ Ok entry
unfolding placed
placed-front front back line entry sorted rooted filled unbroken =
    let absent : has_name entry.name front ≡ false = has_name-after entry.name front (before_place front back entry sorted) in
    let has : lacks_superior entry.name front ≡ false = lacks_superior-front front back entry sorted rooted filled in
    let apart = apart-before (superior_name entry.name) entry.name back (Less-from_before (superior_name entry.name) entry.name (superior_before entry.name filled)) (after_place front back entry sorted) in
    rw (absent, has) (ap (ruled line entry) (broken_rule-front front back entry apart unbroken))
