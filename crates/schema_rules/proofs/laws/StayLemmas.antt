-- The entries of a tree still meet the rules where one that meets them is added.
use Rattle.std.proofs.Common.{◌≡◌, ◌≢◌, ℕ, ◌<◌, nat_le, false, List, [], ◌∷◌, ◌++◌, length, None, sym, ap, subst, ◌∙◌, inl, inr, append_assoc, arith}
use Rattle.std.specs.List.{AllByRecursion}
use Rattle.std.proofs.lemmas.Bool.{or_parts}
use Rattle.std.proofs.lemmas.Bool.Decides.{nat_tests}
use Rattle.dir_tree.specs.dn_names.NameOrder.{is_same}
use Rattle.dir_tree.specs.dn_names.name.GoodNames.{IsGoodName}
use Rattle.dir_tree.specs.Entry.{EntryInformation, IsGoodAttributes}
use Rattle.dir_tree.specs.tree.Trees.{IsTree, put_in, has_name, lacks_superior, superior_name}
use Rattle.dir_tree.proofs.TreeTheorems.{tree-put_in, all_put as all_put_in, is_put, superiors_apart}
use Rattle.aci_item.specs.Rules.{broken_rule, is_past_limits, MeetsRules, AreGood}
use Rattle.schema_rules.proofs.laws.ListPlaceLemmas.{stands, all_at}
use Rattle.schema_rules.proofs.rules.RuleLemmas.{Meets-from_broken_rule, broken_rule-past}

-- no entry of the list has the new one as its superior
abbrev AreApart : List EntryInformation → EntryInformation → Type 0
AreApart entries new = AllByRecursion (λ (entry : EntryInformation). is_same (superior_name entry.name) new.name ≡ false) entries

apart_at :
    (entries front back : List EntryInformation) (new other : EntryInformation) → AreApart entries new
    → entries ≡ front ++ other ∷ back → is_same (superior_name other.name) new.name ≡ false
apart_at entries front back new other apart is =
    all_at (λ (entry : EntryInformation). is_same (superior_name entry.name) new.name ≡ false) front back other
    (let P : List EntryInformation → Type 0 = λ entries. AreApart entries new in subst P is apart)

-- an entry before the new one
stays_before :
    (front back before between : List EntryInformation) (new other : EntryInformation) → MeetsRules (front ++ back)
    → AreApart (front ++ back) new → broken_rule None (front ++ back) new ≡ None → front ≡ before ++ other ∷ between
    → broken_rule None (before ++ (between ++ new ∷ back)) other ≡ None
stays_before front back before between new other meets apart unbroken is =
    let old : front ++ back ≡ before ++ other ∷ (between ++ back) =
    ap (λ front. front ++ back) is ∙ append_assoc before (other ∷ between) back in
    ap (λ entries. broken_rule None entries other) (sym (append_assoc before between (new ∷ back)))
    ∙ broken_rule-past (before ++ between) back before (between ++ back) new other (append_assoc before between back)
    (apart_at (front ++ back) before (between ++ back) new other apart old)
    (ap (λ entries. broken_rule None entries new) (sym old) ∙ unbroken) (meets before (between ++ back) other old)

-- an entry after it
stays_after :
    (front back between after : List EntryInformation) (new other : EntryInformation) → MeetsRules (front ++ back)
    → AreApart (front ++ back) new → broken_rule None (front ++ back) new ≡ None → back ≡ between ++ other ∷ after
    → broken_rule None ((front ++ new ∷ between) ++ after) other ≡ None
stays_after front back between after new other meets apart unbroken is =
    let old : front ++ back ≡ (front ++ between) ++ other ∷ after =
    ap (λ back. front ++ back) is ∙ sym (append_assoc front between (other ∷ after)) in
    ap (λ entries. broken_rule None entries other) (append_assoc front (new ∷ between) after)
    ∙ broken_rule-past front (between ++ after) (front ++ between) after new other (sym (append_assoc front between after))
    (apart_at (front ++ back) (front ++ between) after new other apart old)
    (ap (λ entries. broken_rule None entries new) (sym old) ∙ unbroken) (meets (front ++ between) after other old)

-- so each
stays :
    (front back before after : List EntryInformation) (new other : EntryInformation) → MeetsRules (front ++ back)
    → AreApart (front ++ back) new → broken_rule None (front ++ back) new ≡ None
    → front ++ new ∷ back ≡ before ++ other ∷ after → broken_rule None (before ++ after) other ≡ None
stays front back before after new other meets apart unbroken is =
    elim (stands front back before after new other is) [
      | inl here ↦ rw (here.before_is, here.after_is, ← here.is) unbroken
      | inr elsewhere ↦ elim elsewhere [
        | inl sooner ↦
            ap (λ after. broken_rule None (before ++ after) other) sooner.after_is
            ∙ stays_before front back before sooner.between new other meets apart unbroken sooner.front_is
        | inr later ↦
            ap (λ before. broken_rule None (before ++ after) other) later.before_is
            ∙ stays_after front back later.between after new other meets apart unbroken later.back_is
      ]
    ]

-- the entries with the new one, in the tree's order
pub MeetsRules-put_in :
    (entries : List EntryInformation) (entry : EntryInformation) → IsTree entries → MeetsRules entries → entry.name ≢ []
    → has_name entry.name entries ≡ false → lacks_superior entry.name entries ≡ false
    → broken_rule None entries entry ≡ None → MeetsRules (put_in entry entries)
MeetsRules-put_in entries entry tree meets named absent has unbroken before after other is =
    let put = is_put entry entries in
    let P : List EntryInformation → Type 0 = λ entries. AreApart entries entry in
    stays put.front put.back before after entry other (subst MeetsRules put.old meets)
    (subst P put.old (superiors_apart entries entry.name tree absent has))
    (ap (λ entries. broken_rule None entries entry) (sym put.old) ∙ unbroken) (sym put.new ∙ is)

-- no entries are good
none_placed : (front back : List EntryInformation) (entry : EntryInformation) → [] ≢ front ++ entry ∷ back
none_placed [] back entry is = cc
none_placed (first ∷ front) back entry is = cc

pub AreGood-none : AreGood []
AreGood-none = record {
  tree = record { sorted = tt; rooted = tt; named = tt; fits = omega arith };
  names = tt;
  attributes = tt;
  meets = λ front back entry is. absurd (none_placed front back entry is);
}

-- and good ones stay so with one more
pub AreGood-put_in :
    (entries : List EntryInformation) (entry : EntryInformation) → AreGood entries → entry.name ≢ []
    → IsGoodName entry.name → IsGoodAttributes entry.attributes → has_name entry.name entries ≡ false
    → lacks_superior entry.name entries ≡ false → broken_rule None entries entry ≡ None
    → AreGood (put_in entry entries)
unfolding is_past_limits
AreGood-put_in entries entry good named name attributes absent has unbroken =
    let meets = Meets-from_broken_rule None entries entry unbroken in
    let parts = or_parts _ _ meets.limits in
    let room : length entries < 200000 = few (length entries) (or_parts _ _ parts.0).0 in
    record {
      tree = tree-put_in entry entries good.tree named absent has room;
      names = all_put_in (λ (entry : EntryInformation). IsGoodName entry.name) entry entries name good.names;
      attributes = all_put_in (λ (entry : EntryInformation). IsGoodAttributes entry.attributes) entry entries attributes good.attributes;
      meets = MeetsRules-put_in entries entry good.tree good.meets named absent has unbroken;
    }
  where
    few : (n : ℕ) → nat_le 200000 n ≡ false → n < 200000
    few n none = grind (arith, nat_tests)
