-- An entry that meets the rules among others still does where one more stands among them.
use Rattle.std.proofs.Common.{◌≡◌, ℕ, ◌+◌, nat_le, Bool, true, false, ◌&&◌, ◌||◌, cond, List, ◌∷◌, ◌++◌, length, find, Option, Some, None, refl, sym, ap, ◌∙◌, arith}
use Rattle.std.specs.Option.{option_map}
use Rattle.std.proofs.lemmas.Bool.{or_parts, or_from}
use Rattle.dir_tree.specs.dn_names.NameOrder.{is_same}
use Rattle.dir_tree.specs.Entry.{EntryInformation}
use Rattle.dir_tree.specs.Points.{is_access_subentry, access_subentries}
use Rattle.dir_tree.specs.tree.Trees.{superior_name}
use Rattle.aci_item.specs.Rules.{Rule, rules, broken_rule, Meets, is_misplaced, is_past_limits, stands_wrong}
use Rattle.schema_rules.proofs.laws.ListPlaceLemmas.{find-past, filter-past, length-past, none_found, nothing_found}

nothing : {X Y : Type 0} (f : X → Y) (found : Option X) → option_map f found ≡ None → found ≡ None
nothing f None none = refl
nothing f (Some x) none = absurd cc

-- the entry breaks none of the rules exactly where it meets each
pub Meets-from_broken_rule :
    (old : Option EntryInformation) (others : List EntryInformation) (entry : EntryInformation)
    → broken_rule old others entry ≡ None → Meets old others entry
unfolding broken_rule
Meets-from_broken_rule old others entry none =
    let all = none_found (λ (row : Rule). row.breaks old others entry) rules
    (nothing (λ (row : Rule). row.rule) (find (λ (row : Rule). row.breaks old others entry) rules) none) in
    record {
      own_values = all.0;
      structural = all.1.0;
      classes = all.1.1.0;
      syntaxes = all.1.1.1.0;
      single = all.1.1.1.1.0;
      placed = all.1.1.1.1.1.0;
      limits = all.1.1.1.1.1.1.0;
    }

pub broken_rule-from_Meets :
    (old : Option EntryInformation) (others : List EntryInformation) (entry : EntryInformation)
    → Meets old others entry → broken_rule old others entry ≡ None
unfolding broken_rule
broken_rule-from_Meets old others entry meets =
    ap (option_map (λ (row : Rule). row.rule)) (nothing_found (λ (row : Rule). row.breaks old others entry) rules
    (meets.own_values, (meets.structural, (meets.classes, (meets.syntaxes, (meets.single, (meets.placed, (meets.limits, tt))))))))

-- an entry that is not the superior changes nothing of it
pub misplaced-past :
    (front back : List EntryInformation) (new other : EntryInformation) → is_same (superior_name other.name) new.name ≡ false
    → is_misplaced None (front ++ new ∷ back) other ≡ is_misplaced None (front ++ back) other
unfolding is_misplaced
misplaced-past front back new other apart =
    ap (λ superior. stands_wrong superior other || false)
    (find-past (λ entry. is_same (superior_name other.name) entry.name) front back new apart)

-- counts of access control subentries
counted :
    (one other : Bool) (before now old : ℕ) → now ≡ before + cond one 1 0 → old ≡ before + cond other 1 0
    → (one && nat_le 256 old) ≡ false → (other && nat_le 256 before) ≡ false → (other && nat_le 256 now) ≡ false
counted one false before now old now_is old_is new_fits fits = refl
counted true true before now old now_is old_is new_fits fits =
    let same : now ≡ old = cc in ap (nat_le 256) same ∙ new_fits
counted false true before now old now_is old_is new_fits fits =
    let same : now ≡ before = omega arith in ap (nat_le 256) same ∙ fits

-- the counts of the last rule grow by one at most, and stay as they were when the new entry was checked
pub limits-past :
    (a b c d : List EntryInformation) (new other : EntryInformation) → a ++ b ≡ c ++ d
    → is_past_limits (c ++ other ∷ d) new ≡ false → is_past_limits (c ++ d) other ≡ false
    → is_past_limits (a ++ new ∷ b) other ≡ false
unfolding is_past_limits
limits-past a b c d new other same new_fits fits =
    let new_parts = or_parts _ _ new_fits in
    let new_counts = or_parts _ _ new_parts.0 in
    let parts = or_parts _ _ fits in
    let counts = or_parts _ _ parts.0 in
    let len : length (a ++ new ∷ b) ≡ length (c ++ other ∷ d) =
    length-past a b new ∙ ap (λ (entries : List EntryInformation). length entries + 1) same ∙ sym (length-past c d other) in
    let now : access_subentries (a ++ new ∷ b) ≡ access_subentries (c ++ d) + cond (is_access_subentry new) 1 0 =
    filter-past is_access_subentry a b new
    ∙ ap (λ entries. access_subentries entries + cond (is_access_subentry new) 1 0) same in
    or_from _ _
    (or_from _ _ (ap (nat_le 200000) len ∙ new_counts.0)
    (counted (is_access_subentry new) (is_access_subentry other) (access_subentries (c ++ d))
    (access_subentries (a ++ new ∷ b)) (access_subentries (c ++ other ∷ d)) now
    (filter-past is_access_subentry c d other) new_counts.1 counts.1))
    parts.1

-- so all rules
pub broken_rule-past :
    (a b c d : List EntryInformation) (new other : EntryInformation) → a ++ b ≡ c ++ d
    → is_same (superior_name other.name) new.name ≡ false → broken_rule None (c ++ other ∷ d) new ≡ None
    → broken_rule None (c ++ d) other ≡ None → broken_rule None (a ++ new ∷ b) other ≡ None
broken_rule-past a b c d new other same apart new_unbroken unbroken =
    let new_meets = Meets-from_broken_rule None (c ++ other ∷ d) new new_unbroken in
    let meets = Meets-from_broken_rule None (c ++ d) other unbroken in
    broken_rule-from_Meets None (a ++ new ∷ b) other (record {
      own_values = meets.own_values;
      structural = meets.structural;
      classes = meets.classes;
      syntaxes = meets.syntaxes;
      single = meets.single;
      placed = misplaced-past a b new other apart ∙ ap (λ entries. is_misplaced None entries other) same ∙ meets.placed;
      limits = limits-past a b c d new other same new_meets.limits meets.limits;
    })
