-- The entries of a tree without their numbers, and what may join them.
use Rattle.std.proofs.Common.{◌≡◌, ℕ, Bool, true, false, List, length, Option, Some, None, Ok, Err, refl, sym, ap, ◌∙◌, true≢false}
use Rattle.std.specs.Prelude.{◌==◌, ◌≤◌, nat_le, if◌then◌else◌}
use Rattle.std.proofs.Common.{arith}
use Rattle.std.proofs.lemmas.Bool.{or_parts}
use Rattle.std.proofs.lemmas.Bool.Decides.{nat_tests}
use Rattle.dir_tree.specs.Entry.{EntryInformation}
use Rattle.dir_tree.specs.tree.Trees.{most_entries, has_name, lacks_superior}
use Rattle.dir_tree.specs.Refusals.{insert_refusal}
use Rattle.dir_tree.specs.declared.refusals.InsertRefusal.{InsertRefusal}
use Rattle.dir_tree.specs.declared.refusals.InsertRefusal.TheVariants as inserting
use Rattle.aci_item.specs.Rules.{broken_rule, is_past_limits}
use Rattle.schema_rules.proofs.Theorems.{Meets-from_broken_rule}
use Rattle.dir_tree.specs.plain_values.Answers.{IsFaultOf}
use Rattle.ldif_load.specs.declared.fault.LoadFault.{LoadFault}
use Rattle.ldif_load.specs.declared.fault.LoadFault.TheVariants as load_fault
use Rattle.ldif_load.specs.declared.fault.LoadCause.TheVariants.{Twice, Order}
use Rattle.ldif_load.specs.load.Loading.{RecordFault, Bad, ruled, placed, fault_of}

-- an entry may join the entries but for the rules
pub record MayJoin (entries : List EntryInformation) (entry : EntryInformation) : Type 0 where
  pub fresh : has_name entry.name entries ≡ false
  pub stands : lacks_superior entry.name entries ≡ false

-- why a tree refuses, by its three tests
refusal_by : Bool → Bool → Bool → Option InsertRefusal
refusal_by there lacks full =
    if there then Some inserting.NameTaken else if lacks then Some inserting.NoSuperior else if full then Some inserting.Full else None

if_taken : (there lacks full : Bool) → refusal_by there lacks full ≡ Some inserting.NameTaken → there ≡ true
unfolding refusal_by
if_taken true lacks full is = refl
if_taken false true full is = absurd cc
if_taken false false true is = absurd cc
if_taken false false false is = absurd cc

if_alone : (there lacks full : Bool) → refusal_by there lacks full ≡ Some inserting.NoSuperior → (there ≡ false) × (lacks ≡ true)
unfolding refusal_by
if_alone true lacks full is = absurd cc
if_alone false true full is = (refl, refl)
if_alone false false true is = absurd cc
if_alone false false false is = absurd cc

if_full : (there lacks full : Bool) → refusal_by there lacks full ≡ Some inserting.Full → (there ≡ false) × (lacks ≡ false) × (full ≡ true)
unfolding refusal_by
if_full true lacks full is = absurd cc
if_full false true full is = absurd cc
if_full false false true is = (refl, refl, refl)
if_full false false false is = absurd cc

if_free : (there lacks full : Bool) → refusal_by there lacks full ≡ None → (there ≡ false) × (lacks ≡ false)
unfolding refusal_by
if_free true lacks full is = absurd cc
if_free false true full is = absurd cc
if_free false false true is = absurd cc
if_free false false false is = (refl, refl)

-- the refusal of a tree is that of loading
pub placed-taken : (entries : List EntryInformation) (line : ℕ) (entry : EntryInformation) → insert_refusal entry.name entries ≡ Some inserting.NameTaken
    → placed entries line entry ≡ Err (Bad line Twice)
unfolding placed refusal_by
placed-taken entries line entry is =
    rw (if_taken (has_name entry.name entries) (lacks_superior entry.name entries) (length entries == most_entries) is) refl

pub placed-alone : (entries : List EntryInformation) (line : ℕ) (entry : EntryInformation) → insert_refusal entry.name entries ≡ Some inserting.NoSuperior
    → placed entries line entry ≡ Err (Bad line Order)
unfolding placed refusal_by
placed-alone entries line entry is =
    let tests = if_alone (has_name entry.name entries) (lacks_superior entry.name entries) (length entries == most_entries) is in
    rw (tests.0, tests.1) refl

-- in a full tree the rules come first
pub MayJoin-full : (entries : List EntryInformation) (entry : EntryInformation) → insert_refusal entry.name entries ≡ Some inserting.Full → MayJoin entries entry
unfolding refusal_by
MayJoin-full entries entry is =
    let tests = if_full (has_name entry.name entries) (lacks_superior entry.name entries) (length entries == most_entries) is in
    record { fresh = tests.0; stands = tests.1 }

at_least : (n : ℕ) → (n == 200000) ≡ true → nat_le 200000 n ≡ true
at_least n is = grind (arith, nat_tests)

pub is_full : (entries : List EntryInformation) (entry : EntryInformation) → insert_refusal entry.name entries ≡ Some inserting.Full → nat_le most_entries (length entries) ≡ true
unfolding refusal_by
is_full entries entry is =
    at_least (length entries) ((if_full (has_name entry.name entries) (lacks_superior entry.name entries) (length entries == most_entries) is).2)

pub MayJoin-free : (entries : List EntryInformation) (entry : EntryInformation) → insert_refusal entry.name entries ≡ None → MayJoin entries entry
unfolding refusal_by
MayJoin-free entries entry is =
    let tests = if_free (has_name entry.name entries) (lacks_superior entry.name entries) (length entries == most_entries) is in
    record { fresh = tests.0; stands = tests.1 }

-- an entry that may join breaks the first rule, or none
placed-ruled : (entries : List EntryInformation) (line : ℕ) (entry : EntryInformation) → MayJoin entries entry
    → placed entries line entry ≡ ruled line entry (broken_rule None entries entry)
unfolding placed
placed-ruled entries line entry may = rw (may.fresh, may.stands) refl

pub placed-good : (entries : List EntryInformation) (line : ℕ) (entry : EntryInformation) → MayJoin entries entry → broken_rule None entries entry ≡ None
    → placed entries line entry ≡ Ok entry
placed-good entries line entry may good = placed-ruled entries line entry may ∙ ap (ruled line entry) good

pub placed-fault : (entries : List EntryInformation) (line : ℕ) (entry : EntryInformation) (fault : LoadFault) → MayJoin entries entry
    → IsFaultOf (fault_of fault) (ruled line entry (broken_rule None entries entry)) → IsFaultOf (fault_of fault) (placed entries line entry)
placed-fault entries line entry load_fault.NoMemory may is = tt
placed-fault entries line entry (load_fault.Bad number cause) may is = placed-ruled entries line entry may ∙ is

-- an entry of a full tree breaks a rule
pub full_breaks : (entries : List EntryInformation) (entry : EntryInformation) → nat_le most_entries (length entries) ≡ true → broken_rule None entries entry ≡ None → ⊥
unfolding is_past_limits
full_breaks entries entry full none =
    let parts = or_parts _ _ ((Meets-from_broken_rule None entries entry none).limits) in
    true≢false (sym full ∙ (or_parts _ _ parts.0).0)
