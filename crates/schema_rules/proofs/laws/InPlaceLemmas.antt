-- Good entries stay so where an entry of the same name takes another's place and breaks no rule there.
use Rattle.std.proofs.Common.{◌≡◌, ◌≢◌, Bool, true, false, not, ◌&&◌, ◌||◌, List, [], ◌∷◌, ◌++◌, ◌⊎◌, find, None, Some, refl, sym, ap, subst, ◌∙◌, inl, inr, append_assoc}
use Rattle.std.specs.List.{AllByRecursion, list_any}
use Rattle.std.proofs.lemmas.Bool.{cases_Bool, or_parts, or_from, false_from_ne_true, true≢false}
use Rattle.dir_tree.proofs.base_laws_proofs.Theorems.{all_map, all_filter}
use Rattle.dir_tree.specs.dn_names.NameOrder.{is_same}
use Rattle.dir_tree.specs.dn_names.name.GoodNames.{IsGoodName}
use Rattle.dir_tree.specs.Entry.{EntryInformation, IsGoodAttributes}
use Rattle.dir_tree.specs.Points.{is_point, is_subentry}
use Rattle.dir_tree.specs.Scope.{is_child}
use Rattle.dir_tree.specs.tree.Trees.{is_named, named_in, superior_name, put_in, taken_out}
use Rattle.dir_tree.proofs.TreeTheorems.{tree-same_name, left_out as none_named, child_is, same_back, same_over, all_put as all_put_in, is_put, taken_at}
use Rattle.aci_item.specs.Rules.{broken_rule, has_other_structural, is_misplaced, is_past_limits, stands_wrong, stands_wrong_above, Meets, MeetsRules, AreGood}
use Rattle.schema_rules.proofs.laws.ListPlaceLemmas.{stands as stands_put, all_at}
use Rattle.schema_rules.proofs.laws.ListTakenLemmas.{stands as stands_taken}
use Rattle.schema_rules.proofs.rules.RuleLemmas.{Meets-from_broken_rule, broken_rule-from_Meets, misplaced-past, limits-past}
use Rattle.schema_rules.proofs.laws.TakenLemmas.{limits-without}

-- an entry that meets the rules in a place meets them beside the same others
pub unbroken_as_new :
    (old new : EntryInformation) (left : List EntryInformation) → broken_rule (Some old) left new ≡ None
    → broken_rule None left new ≡ None
unfolding has_other_structural is_misplaced
unbroken_as_new old new left unbroken =
    let meets = Meets-from_broken_rule (Some old) left new unbroken in
    broken_rule-from_Meets None left new (record {
      own_values = meets.own_values;
      structural = refl;
      classes = meets.classes;
      syntaxes = meets.syntaxes;
      single = meets.single;
      placed = or_from (stands_wrong (named_in (superior_name new.name) left) new) false (or_parts _ _ meets.placed).0 refl;
      limits = meets.limits;
    })

-- a test that fails of all
any_at : {X : Type 0} (test : X → Bool) (front back : List X) (x : X) → list_any test (front ++ x ∷ back) ≡ false → test x ≡ false
any_at test [] back x none = (or_parts (test x) (list_any test back) none).0
any_at test (first ∷ front) back x none = any_at test front back x (or_parts (test first) (list_any test (front ++ x ∷ back)) none).1

-- the one that passes is found
find_only :
    {X : Type 0} (test : X → Bool) (front back : List X) (x : X) → AllByRecursion (λ x. test x ≡ false) (front ++ back)
    → test x ≡ true → find test (front ++ x ∷ back) ≡ Some x
find_only test [] back x fail passes = rw passes refl
find_only test (first ∷ front) back x fail passes = rw fail.0 (find_only test front back x fail.1 passes)

-- what holds of all holds without one of them
all_but : {X : Type 0} (P : X → Type 0) (front back : List X) (x : X) → AllByRecursion P (front ++ x ∷ back) → AllByRecursion P (front ++ back)
all_but P [] back x all = all.1
all_but P (first ∷ front) back x all = (all.0, all_but P front back x all.1)

-- the entries of a tree with one in the place of another, each looked at beside the rest
module _ (old new : EntryInformation) (left : List EntryInformation) (same : is_same new.name old.name ≡ true) (gone : AllByRecursion (λ entry. is_named old.name entry ≡ false) left) (filled_left : AllByRecursion (λ (entry : EntryInformation). entry.name ≢ []) left) (meets_new : Meets (Some old) left new) where
  -- an entry whose superior has the new name stood immediately below the old one
  child_of_old : (other : EntryInformation) → other.name ≢ [] → is_same (superior_name other.name) new.name ≡ true → is_child old.name other ≡ true
  child_of_old other named below =
      let above : is_same (superior_name other.name) old.name ≡ true =
      same_over (superior_name other.name) new.name old.name below same in
      child_is old.name other named ∙ above

  -- so the new one takes it
  placed_below_new :
      (c d : List EntryInformation) (other : EntryInformation) → left ≡ c ++ other ∷ d
      → is_same (superior_name other.name) new.name ≡ true → stands_wrong (Some new) other ≡ false
  unfolding is_misplaced
  placed_below_new c d other at below =
      let named : other.name ≢ [] =
      all_at (λ (entry : EntryInformation). entry.name ≢ []) c d other
      (subst (λ left. AllByRecursion (λ (entry : EntryInformation). entry.name ≢ []) left) at filled_left) in
      let none : stands_wrong_above (Some old) (c ++ other ∷ d) new ≡ false =
      ap (λ left. stands_wrong_above (Some old) left new) (sym at) ∙ (or_parts _ _ meets_new.placed).1 in
      let here = any_at (λ other. is_child old.name other && (is_subentry new || is_subentry other && not (is_point new))) c d other none in
      rw (child_of_old other named below) at here

  -- the rest holds no other entry of the new name
  rest_apart :
      (c d : List EntryInformation) (other : EntryInformation) → left ≡ c ++ other ∷ d
      → is_same (superior_name other.name) new.name ≡ true
      → AllByRecursion (λ (entry : EntryInformation). is_same (superior_name other.name) entry.name ≡ false) (c ++ d)
  rest_apart c d other at below =
      all_map (λ (entry : EntryInformation). is_named old.name entry ≡ false) (λ (entry : EntryInformation). is_same (superior_name other.name) entry.name ≡ false)
      (λ entry apart. false_from_ne_true _ (λ again.
      true≢false (sym (same_over old.name new.name entry.name (same_back new.name old.name same) (same_over new.name (superior_name other.name) entry.name (same_back (superior_name other.name) new.name below) again)) ∙ apart)))
      (c ++ d) (all_but (λ entry. is_named old.name entry ≡ false) c d other
      (subst (λ left. AllByRecursion (λ entry. is_named old.name entry ≡ false) left) at gone))

  module _ (c d p q r s : List EntryInformation) (other : EntryInformation) (at : left ≡ c ++ other ∷ d) (was : p ++ q ≡ c ++ d) (is : r ++ s ≡ c ++ d) (unbroken : broken_rule None (p ++ old ∷ q) other ≡ None) where
    meets : Meets None (p ++ old ∷ q) other
    meets = Meets-from_broken_rule None (p ++ old ∷ q) other unbroken

    placed : is_misplaced None (r ++ new ∷ s) other ≡ false
    unfolding is_misplaced
    placed = elim (cases_Bool (is_same (superior_name other.name) new.name)) [
      | inl below ↦
          ap (λ superior. stands_wrong superior other || false)
          (find_only (λ entry. is_same (superior_name other.name) entry.name) r s new
          (subst (λ rest. AllByRecursion (λ (entry : EntryInformation). is_same (superior_name other.name) entry.name ≡ false) rest) (sym is) (rest_apart c d other at below)) below)
          ∙ or_from _ false (placed_below_new c d other at below) refl
      | inr apart ↦
          let apart_old : is_same (superior_name other.name) old.name ≡ false =
          false_from_ne_true _ (λ above. true≢false
          (sym (same_over (superior_name other.name) old.name new.name above (same_back new.name old.name same)) ∙ apart)) in
          misplaced-past r s new other apart ∙ ap (λ rest. is_misplaced None rest other) (is ∙ sym was)
          ∙ sym (misplaced-past p q old other apart_old) ∙ meets.placed
    ]

    -- so it meets all rules
    pub unbroken_beside_new : broken_rule None (r ++ new ∷ s) other ≡ None
    unbroken_beside_new =
        broken_rule-from_Meets None (r ++ new ∷ s) other (record {
          own_values = meets.own_values;
          structural = meets.structural;
          classes = meets.classes;
          syntaxes = meets.syntaxes;
          single = meets.single;
          placed = placed;
          limits = limits-past r s c d new other is (ap (λ left. is_past_limits left new) (sym at) ∙ meets_new.limits)
              (ap (λ rest. is_past_limits rest other) (sym was) ∙ limits-without p q old other meets.limits);
        })

-- each other entry met the rules beside the old one
record MetBefore (old other : EntryInformation) (rest : List EntryInformation) : Type 0 where
  front : List EntryInformation
  back : List EntryInformation
  beside : front ++ back ≡ rest
  unbroken : broken_rule None (front ++ old ∷ back) other ≡ None

met_before :
    (old other : EntryInformation) (front back c d : List EntryInformation) → MeetsRules (front ++ old ∷ back)
    → front ++ back ≡ c ++ other ∷ d → MetBefore old other (c ++ d)
met_before old other front back c d meets at =
    elim (stands_taken front back c d other at) [
      | inl sooner ↦ record {
        front = c ++ sooner.between;
        back = back;
        beside = append_assoc c sooner.between back ∙ ap (λ rest. c ++ rest) (sym sooner.after_is);
        unbroken =
            ap (λ entries. broken_rule None entries other) (append_assoc c sooner.between (old ∷ back))
            ∙ meets c (sooner.between ++ old ∷ back) other
            (ap (λ front. front ++ old ∷ back) sooner.front_is ∙ append_assoc c (other ∷ sooner.between) (old ∷ back));
      }
      | inr later ↦ record {
        front = front;
        back = later.between ++ d;
        beside = sym (append_assoc front later.between d) ∙ ap (λ c. c ++ d) (sym later.before_is);
        unbroken =
            ap (λ entries. broken_rule None entries other) (sym (append_assoc front (old ∷ later.between) d))
            ∙ meets (front ++ old ∷ later.between) d other
            (ap (λ back. front ++ old ∷ back) later.back_is ∙ sym (append_assoc front (old ∷ later.between) (other ∷ d)));
      }
    ]

-- each entry beside the new one
record IsBeside (new other : EntryInformation) (left before after : List EntryInformation) : Type 0 where
  c : List EntryInformation
  d : List EntryInformation
  front : List EntryInformation
  back : List EntryInformation
  at : left ≡ c ++ other ∷ d
  beside : front ++ back ≡ c ++ d
  is : before ++ after ≡ front ++ new ∷ back

is_beside :
    (new other : EntryInformation) (front back before after : List EntryInformation) → front ++ new ∷ back ≡ before ++ other ∷ after
    → ((new ≡ other) × (before ++ after ≡ front ++ back)) ⊎ IsBeside new other (front ++ back) before after
is_beside new other front back before after is =
    elim (stands_put front back before after new other is) [
      | inl here ↦ inl (here.is, ap (λ before. before ++ after) here.before_is ∙ ap (λ after. front ++ after) here.after_is)
      | inr elsewhere ↦ inr (elim elsewhere [
        | inl sooner ↦ record {
          c = before;
          d = sooner.between ++ back;
          front = before ++ sooner.between;
          back = back;
          at = ap (λ front. front ++ back) sooner.front_is ∙ append_assoc before (other ∷ sooner.between) back;
          beside = append_assoc before sooner.between back;
          is = ap (λ after. before ++ after) sooner.after_is ∙ sym (append_assoc before sooner.between (new ∷ back));
        }
        | inr later ↦ record {
          c = front ++ later.between;
          d = after;
          front = front;
          back = later.between ++ after;
          at = ap (λ back. front ++ back) later.back_is ∙ sym (append_assoc front later.between (other ∷ after));
          beside = sym (append_assoc front later.between after);
          is = ap (λ before. before ++ after) later.before_is ∙ append_assoc front (new ∷ later.between) after;
        }
      ])
    ]

-- so each meets the rules
meets_in_place :
    (old new : EntryInformation) (entries : List EntryInformation) → AreGood entries → named_in old.name entries ≡ Some old
    → is_same new.name old.name ≡ true → broken_rule (Some old) (taken_out old.name entries) new ≡ None
    → MeetsRules (put_in new (taken_out old.name entries))
meets_in_place old new entries good known same unbroken before after other is =
    let taken = taken_at old entries good.tree.sorted known in
    let put = is_put new (taken_out old.name entries) in
    elim (is_beside new other put.front put.back before after (sym put.new ∙ is)) [
      | inl here ↦
          ap (λ entries. broken_rule None entries other) (here.1 ∙ sym put.old)
          ∙ ap (λ entry. broken_rule None (taken_out old.name entries) entry) (sym here.0)
          ∙ unbroken_as_new old new (taken_out old.name entries) unbroken
      | inr beside ↦
          let met = met_before old other taken.front taken.back beside.c beside.d (subst MeetsRules taken.new good.meets)
          (sym taken.old ∙ put.old ∙ beside.at) in
          ap (λ entries. broken_rule None entries other) beside.is
          ∙ unbroken_beside_new old new (taken_out old.name entries) same (none_named old.name entries)
          (all_filter (λ (entry : EntryInformation). entry.name ≢ []) (λ entry. not (is_named old.name entry)) entries good.tree.named)
          (Meets-from_broken_rule (Some old) (taken_out old.name entries) new unbroken)
          beside.c beside.d met.front met.back beside.front beside.back other (put.old ∙ beside.at) met.beside beside.beside met.unbroken
    ]

pub AreGood-same_name :
    (entries : List EntryInformation) (old new : EntryInformation) → AreGood entries → named_in old.name entries ≡ Some old
    → is_same new.name old.name ≡ true → new.name ≢ [] → IsGoodName new.name → IsGoodAttributes new.attributes
    → broken_rule (Some old) (taken_out old.name entries) new ≡ None → AreGood (put_in new (taken_out old.name entries))
AreGood-same_name entries old new good known same named name attributes unbroken =
    record {
      tree = tree-same_name old entries good.tree known new same named;
      names = all_put_in (λ (entry : EntryInformation). IsGoodName entry.name) new (taken_out old.name entries) name
          (all_filter (λ (entry : EntryInformation). IsGoodName entry.name) (λ entry. not (is_named old.name entry)) entries good.names);
      attributes = all_put_in (λ (entry : EntryInformation). IsGoodAttributes entry.attributes) new (taken_out old.name entries) attributes
          (all_filter (λ (entry : EntryInformation). IsGoodAttributes entry.attributes) (λ entry. not (is_named old.name entry)) entries good.attributes);
      meets = meets_in_place old new entries good known same unbroken;
    }
