-- Good entries stay good where one is taken out below which none stands.
use Rattle.std.proofs.Common.{◌≡◌, ℕ, ◌≤◌, nat_le, Bool, true, false, not, ◌&&◌, ◌||◌, List, ◌∷◌, ◌++◌, length, None, Some, refl, sym, ap, subst, ◌∙◌, inl, inr, append_assoc, arith}
use Rattle.std.specs.List.{AllByRecursion}
use Rattle.std.proofs.lemmas.Bool.{or_parts, or_from}
use Rattle.std.proofs.lemmas.Bool.Decides.{nat_tests}
use Rattle.dir_tree.proofs.base_laws_proofs.Theorems.{all_filter}
use Rattle.dir_tree.specs.dn_names.name.Names.{RdnSequence}
use Rattle.dir_tree.specs.dn_names.NameOrder.{is_same}
use Rattle.dir_tree.specs.dn_names.name.GoodNames.{IsGoodName}
use Rattle.dir_tree.specs.Entry.{EntryInformation, IsGoodAttributes}
use Rattle.dir_tree.specs.Points.{is_access_subentry, access_subentries}
use Rattle.dir_tree.specs.tree.Trees.{is_named, has_below, named_in, superior_name, taken_out}
use Rattle.dir_tree.proofs.TreeTheorems.{taken_at, tree-taken_out, apart_from_leaf}
use Rattle.aci_item.specs.Rules.{broken_rule, is_misplaced, is_past_limits, stands_wrong, MeetsRules, AreGood}
use Rattle.schema_rules.proofs.laws.ListPlaceLemmas.{all_at, find-past}
use Rattle.schema_rules.proofs.laws.ListTakenLemmas.{stands, filter-fewer, length-fewer}
use Rattle.schema_rules.proofs.rules.RuleLemmas.{Meets-from_broken_rule, broken_rule-from_Meets}

-- the entry's superior has another name
abbrev IsApart : RdnSequence → EntryInformation → Type 0
IsApart name entry = is_same (superior_name entry.name) name ≡ false

-- an entry that is not the superior changes nothing of it
misplaced-without :
    (front back : List EntryInformation) (old other : EntryInformation) → IsApart old.name other
    → is_misplaced None (front ++ back) other ≡ is_misplaced None (front ++ old ∷ back) other
unfolding is_misplaced
misplaced-without front back old other apart =
    ap (λ superior. stands_wrong superior other || false)
    (sym (find-past (λ entry. is_same (superior_name other.name) entry.name) front back old apart))

-- the counts of the last rule grow no more
pub fewer : (most now before : ℕ) → now ≤ before → nat_le most before ≡ false → nat_le most now ≡ false
fewer most now before less fits = grind (arith, nat_tests)

counted : (mine : Bool) (now before : ℕ) → now ≤ before → (mine && nat_le 256 before) ≡ false → (mine && nat_le 256 now) ≡ false
counted true now before less fits = fewer 256 now before less fits
counted false now before less fits = refl

pub limits-without :
    (front back : List EntryInformation) (old other : EntryInformation)
    → is_past_limits (front ++ old ∷ back) other ≡ false → is_past_limits (front ++ back) other ≡ false
unfolding is_past_limits
limits-without front back old other fits =
    let parts = or_parts _ _ fits in
    let counts = or_parts _ _ parts.0 in
    or_from _ _
    (or_from _ _ (fewer 200000 (length (front ++ back)) (length (front ++ old ∷ back)) (length-fewer front back old) counts.0)
    (counted (is_access_subentry other) (access_subentries (front ++ back)) (access_subentries (front ++ old ∷ back))
    (filter-fewer is_access_subentry front back old) counts.1))
    parts.1

-- so all rules
broken_rule-without :
    (front back : List EntryInformation) (old other : EntryInformation) → IsApart old.name other
    → broken_rule None (front ++ old ∷ back) other ≡ None → broken_rule None (front ++ back) other ≡ None
broken_rule-without front back old other apart unbroken =
    let meets = Meets-from_broken_rule None (front ++ old ∷ back) other unbroken in
    broken_rule-from_Meets None (front ++ back) other (record {
      own_values = meets.own_values;
      structural = meets.structural;
      classes = meets.classes;
      syntaxes = meets.syntaxes;
      single = meets.single;
      placed = misplaced-without front back old other apart ∙ meets.placed;
      limits = limits-without front back old other meets.limits;
    })

-- an entry before the one that is taken out
stays_before :
    (front back before between : List EntryInformation) (old other : EntryInformation) → MeetsRules (front ++ old ∷ back)
    → AllByRecursion (IsApart old.name) (front ++ old ∷ back) → front ≡ before ++ other ∷ between
    → broken_rule None (before ++ (between ++ back)) other ≡ None
stays_before front back before between old other meets apart is =
    let whole : front ++ old ∷ back ≡ before ++ other ∷ (between ++ old ∷ back) =
    ap (λ front. front ++ old ∷ back) is ∙ append_assoc before (other ∷ between) (old ∷ back) in
    ap (λ entries. broken_rule None entries other) (sym (append_assoc before between back))
    ∙ broken_rule-without (before ++ between) back old other
    (all_at (IsApart old.name) before (between ++ old ∷ back) other (subst (λ entries. AllByRecursion (IsApart old.name) entries) whole apart))
    (ap (λ entries. broken_rule None entries other) (append_assoc before between (old ∷ back)) ∙ meets before (between ++ old ∷ back) other whole)

-- an entry after it
stays_after :
    (front back between after : List EntryInformation) (old other : EntryInformation) → MeetsRules (front ++ old ∷ back)
    → AllByRecursion (IsApart old.name) (front ++ old ∷ back) → back ≡ between ++ other ∷ after
    → broken_rule None ((front ++ between) ++ after) other ≡ None
stays_after front back between after old other meets apart is =
    let whole : front ++ old ∷ back ≡ (front ++ old ∷ between) ++ other ∷ after =
    ap (λ back. front ++ old ∷ back) is ∙ sym (append_assoc front (old ∷ between) (other ∷ after)) in
    ap (λ entries. broken_rule None entries other) (append_assoc front between after)
    ∙ broken_rule-without front (between ++ after) old other
    (all_at (IsApart old.name) (front ++ old ∷ between) after other (subst (λ entries. AllByRecursion (IsApart old.name) entries) whole apart))
    (ap (λ entries. broken_rule None entries other) (sym (append_assoc front (old ∷ between) after))
    ∙ meets (front ++ old ∷ between) after other whole)

-- so each
MeetsRules-without :
    (front back : List EntryInformation) (old : EntryInformation) → MeetsRules (front ++ old ∷ back)
    → AllByRecursion (IsApart old.name) (front ++ old ∷ back) → MeetsRules (front ++ back)
MeetsRules-without front back old meets apart before after other is =
    elim (stands front back before after other is) [
      | inl sooner ↦
          ap (λ after. broken_rule None (before ++ after) other) sooner.after_is
          ∙ stays_before front back before sooner.between old other meets apart sooner.front_is
      | inr later ↦
          ap (λ before. broken_rule None (before ++ after) other) later.before_is
          ∙ stays_after front back later.between after old other meets apart later.back_is
    ]

pub AreGood-taken_out :
    (old : EntryInformation) (entries : List EntryInformation) → AreGood entries → named_in old.name entries ≡ Some old
    → has_below old.name entries ≡ false → AreGood (taken_out old.name entries)
AreGood-taken_out old entries good known alone =
    let taken = taken_at old entries good.tree.sorted known in
    let apart = apart_from_leaf old.name entries good.tree.named alone in
    record {
      tree = tree-taken_out old entries good.tree known alone;
      names = all_filter (λ (entry : EntryInformation). IsGoodName entry.name) (λ entry. not (is_named old.name entry)) entries good.names;
      attributes = all_filter (λ (entry : EntryInformation). IsGoodAttributes entry.attributes) (λ entry. not (is_named old.name entry)) entries good.attributes;
      meets = subst MeetsRules (sym taken.old)
          (MeetsRules-without taken.front taken.back old (subst MeetsRules taken.new good.meets)
          (subst (λ entries. AllByRecursion (IsApart old.name) entries) taken.new apart));
    }
