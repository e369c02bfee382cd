-- Three ways to stand aside.
use Rattle.std.proofs.Common.{◌≡◌, ℕ, ◌+◌, Bool, true, false, ◌&&◌, ◌||◌, refl, ap, sym, ◌∙◌, arith, length, Option, Some, None, if◌then◌else◌}
use Rattle.std.specs.Prelude.{IfSome, ◌==◌}
use Rattle.std.specs.Option.{option_and_then}
use Rattle.std.proofs.lemmas.Bool.{cond-false, and_parts, and_left, eqb-true, false_from_ne_true}
use Rattle.dir_tree.proofs.base_laws_proofs.Theorems.{and_middle}
use Rattle.dir_tree.specs.dn_names.name.Names.{RdnSequence}
use Rattle.dir_tree.specs.dn_names.NameOrder.{is_same, is_prefix_of}
use Rattle.dir_tree.specs.Entry.{EntryInformation}
use Rattle.dir_tree.specs.Points.{is_specific_point, is_inner_point, is_access_subentry}
use Rattle.dir_tree.specs.Scope.{is_within, is_child}
use Rattle.dir_tree.proofs.TreeTheorems.{length-same, prefix_same}
use Rattle.acdf_filters.specs.admin_scope.Areas.{is_access_point}
use Rattle.acdf_filters.specs.admin_scope.InForce.{subtree_holds, applies, reaches}
use Rattle.acdf_filters.proofs.admin_scope_proofs.Theorems.{prefix_chain, same_fronts}
use Rattle.aci_index.specs.Aside.{is_point_over, point_over, IsNeverInForce, IsAside, IsBeside, IsSamePoint, IsUnderOther}

-- no access control subentry is in force
never_ordinary : (entry one : EntryInformation) → is_access_subentry one ≡ false → IsNeverInForce entry one
never_ordinary entry one e = λ point within. and_middle (is_child point.name one) (is_access_subentry one) (subtree_holds point one entry) e

-- an entry that the other is not below is no point over it
not_over : (entry one : EntryInformation) → is_within one.name entry ≡ false → point_over entry one ≡ None
not_over entry one e =
    cond-false (is_point_over entry one) (Some (length one.name, is_specific_point one)) None
    (and_left (is_within one.name entry) (is_access_point one) e)

no_point : (P : EntryInformation → Type 0) (entry : EntryInformation)
    → ((one : EntryInformation) → P one → is_within one.name entry ≡ false) → (one : Option EntryInformation) → IfSome one P
    → option_and_then (point_over entry) one ≡ None
no_point P entry each None h = refl
no_point P entry each (Some one) h = not_over entry one (each one h)

each_some : (P Q : EntryInformation → Type 0) → ((one : EntryInformation) → P one → Q one) → (one : Option EntryInformation)
    → IfSome one P → IfSome one Q
each_some P Q each None h = tt
each_some P Q each (Some one) h = each one h

-- those that are no point over the entry, and are never in force for it
aside_apart : (P : EntryInformation → Type 0) (entry : EntryInformation)
    → ((one : EntryInformation) → P one → is_within one.name entry ≡ false)
    → ((one : EntryInformation) → P one → IsNeverInForce entry one)
    → (one other : Option EntryInformation) → IfSome one P → IfSome other P → IsAside entry one other
aside_apart P entry outside never one other h k = record {
  points = no_point P entry outside one h ∙ sym (no_point P entry outside other k);
  first = each_some P (IsNeverInForce entry) never one h;
  second = each_some P (IsNeverInForce entry) never other k;
}

-- ordinary entries that the entry is neither at nor below
pub aside-beside : (entry : EntryInformation) (one other : Option EntryInformation) → IfSome one (IsBeside entry)
    → IfSome other (IsBeside entry) → IsAside entry one other
aside-beside entry =
    aside_apart (IsBeside entry) entry (λ one beside. beside.outside) (λ one beside. never_ordinary entry one beside.ordinary)

-- one ordinary entry that keeps its name and its roles
pub aside-same : (entry one other : EntryInformation) → IsSamePoint one other → IsAside entry (Some one) (Some other)
aside-same entry one other h =
    let over : is_point_over entry one ≡ is_point_over entry other =
    ap (λ (b : Bool). b && is_access_point one) (prefix_same one.name other.name entry.name h.named)
    ∙ ap (λ (b : Bool). is_within other.name entry && (b || is_inner_point one)) h.specific
    ∙ ap (λ (b : Bool). is_within other.name entry && (is_specific_point other || b)) h.inner in
    record {
      points =
          ap (λ (b : Bool). if b then Some (length one.name, is_specific_point one) else None) over
          ∙ ap (λ (n : ℕ). if is_point_over entry other then Some (n, is_specific_point one) else None)
          (length-same one.name other.name h.named)
          ∙ ap (λ (b : Bool). if is_point_over entry other then Some (length other.name, b) else None) h.specific;
      first = never_ordinary entry one h.first;
      second = never_ordinary entry other h.second;
    }

-- an entry immediately below a name is below it
outside_under : (entry one : EntryInformation) → IsUnderOther entry one → is_within one.name entry ≡ false
outside_under entry one h =
    let parts = and_parts (is_prefix_of h.top one.name) (length one.name == length h.top + 1) h.under in
    false_from_ne_true (is_within one.name entry)
    (λ e. let clash = sym h.outside ∙ prefix_chain h.top one.name entry.name parts.0 e in absurd cc)

-- and the names that it is immediately below are the same
same_superior : (x y name : RdnSequence) → is_prefix_of x name ≡ true → (length name == length x + 1) ≡ true
    → is_prefix_of y name ≡ true → (length name == length y + 1) ≡ true → is_same x y ≡ true
same_superior x y name e f g h =
    let one = eqb-true (length name) (length x + 1) f in
    let other = eqb-true (length name) (length y + 1) h in
    same_fronts x y name e g (omega (arith, one, other))

never_under : (entry one : EntryInformation) → IsUnderOther entry one → IsNeverInForce entry one
never_under entry one h = λ point within.
    false_from_ne_true (reaches point one entry) (λ e.
    let child = and_parts (is_child point.name one) (applies point one entry) e in
    let parts = and_parts (is_prefix_of point.name one.name) (length one.name == length point.name + 1) child.0 in
    let own = and_parts (is_prefix_of h.top one.name) (length one.name == length h.top + 1) h.under in
    let same = same_superior h.top point.name one.name own.0 own.1 parts.0 parts.1 in
    let clash : false ≡ true = sym h.outside ∙ prefix_same h.top point.name entry.name same ∙ within in
    absurd cc)

-- entries immediately below names that the entry is neither at nor below
pub aside-under : (entry : EntryInformation) (one other : Option EntryInformation) → IfSome one (IsUnderOther entry)
    → IfSome other (IsUnderOther entry) → IsAside entry one other
aside-under entry = aside_apart (IsUnderOther entry) entry (outside_under entry) (never_under entry)
