-- Subtree specifications as the rules allow them: what reading gives, and what is read again from its printed form.
use Rattle.std.specs.Prelude.{◌≡◌, ℕ, ◌≤◌, suc, true, List, Option, Some, None}
use Prim.Native.Nat.{zero}
use Rattle.std.specs.List.{AllByRecursion}
use Rattle.std.specs.List.Sorted.{IsStrictlySortedBy}
use Rattle.schema_tables.specs.Oids.{is_dotted_oid}
use Rattle.dn_names.specs.name.GoodNames.{IsGoodName}
use Rattle.dn_names.specs.name.Names.{RdnSequence}
use Rattle.dn_names.specs.NameOrder.{name_cmp}
use Rattle.subtree_spec.specs.Subtrees as subtrees
use Rattle.subtree_spec.specs.Subtrees.{Choice, Choices, Item, And, Or, Not, Subtree}

-- names in their order, no two of which are the same
pub record AreGoodNames (names : List RdnSequence) : Type 0 where
  pub good : AllByRecursion IsGoodName names
  pub sorted : IsStrictlySortedBy name_cmp names

abbrev mutual
  -- items are dotted, and the refinement is at most so deep
  pub IsGoodChoice : ℕ → Choice → Type 0
  IsGoodChoice zero choice = ⊥
  IsGoodChoice (suc depth) (Item oid) = is_dotted_oid oid ≡ true
  IsGoodChoice (suc depth) (And choices) = AreGoodChoices depth choices
  IsGoodChoice (suc depth) (Or choices) = AreGoodChoices depth choices
  IsGoodChoice (suc depth) (Not choice) = IsGoodChoice depth choice

  -- the same of each of a set
  pub AreGoodChoices : ℕ → Choices → Type 0
  AreGoodChoices depth subtrees.None = Unit {0}
  AreGoodChoices depth (subtrees.Some choice choices) = IsGoodChoice depth choice × AreGoodChoices depth choices

-- where there is one
abbrev pub IfThere : {A : Type 0} → (A → Type 0) → Option A → Type 0
IfThere P None = Unit {0}
IfThere P (Some value) = P value

-- a specification
pub record IsGoodSubtree (spec : Subtree) : Type 0 where
  pub base : IsGoodName spec.base
  pub before : AreGoodNames spec.before
  pub after : AreGoodNames spec.after
  pub minimum : spec.minimum ≤ 2147483647
  pub maximum : IfThere (λ count. count ≤ 2147483647) spec.maximum
  pub filter : IfThere (IsGoodChoice 64) spec.filter
