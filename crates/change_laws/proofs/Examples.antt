-- When changes may be made, on known cases.
use Rattle.std.proofs.Common.{◌≡◌, true, false, [], ◌∷◌, refl}
use Rattle.dir_tree.specs.dn_names.name.Names.{Keyed}
use Rattle.entry_changes.specs.declared.kind.ChangeKind.TheVariants.{Add, Delete, Replace}
use Rattle.entry_changes.specs.Change.{Asks}
use Rattle.change_laws.specs.Changing.{MayDo}

-- one who may do everything, and one who may do nothing
abbrev everything : Asks
everything item permission = true

abbrev nothing : Asks
nothing item permission = false

-- two spellings of one value, and another
abbrev upper : Keyed
upper = record { octets = 65 ∷ []; key = 97 ∷ [] }

abbrev lower : Keyed
lower = record { octets = 97 ∷ []; key = 97 ∷ [] }

abbrev other : Keyed
other = record { octets = 98 ∷ []; key = 98 ∷ [] }

-- a value comes beside another, but not beside another spelling of it, whatever may be done
adds_beside : MayDo Add everything 4 (lower ∷ []) (other ∷ [])
adds_beside = record { comes = λ absent. absurd cc; each = (record { new = refl; allowed = refl }, tt) }

adds_no_spelling : ¬ (MayDo Add everything 4 (lower ∷ []) (upper ∷ []))
adds_no_spelling may = let there : true ≡ false = may.each.0.new in absurd cc

-- another spelling of a value deletes it
deletes_by_spelling : MayDo Delete everything 4 (lower ∷ []) (upper ∷ [])
deletes_by_spelling = (record { allowed = refl; there = refl }, tt)

-- an absent attribute isn't deleted, but replaced by nothing, which asks for nothing
deletes_no_absent : ¬ (MayDo Delete everything 4 [] [])
deletes_no_absent may = may.there refl

replaces_absent : MayDo Replace nothing 4 [] []
replaces_absent = record { comes = λ _ some. absurd (some refl); goes = λ some _. absurd (some refl); each_goes = tt; each_comes = tt }

-- nor does a value that stays as it is
replaces_same : MayDo Replace nothing 4 (lower ∷ []) (lower ∷ [])
replaces_same = record {
  comes = λ absent. absurd cc;
  goes = λ _ absent. absurd cc;
  each_goes = (λ apart. absurd (let is : true ≡ false = apart in cc), tt);
  each_comes = (λ apart. absurd (let is : true ≡ false = apart in cc), tt);
}

-- another spelling of it does
replaces_no_spelling : ¬ (MayDo Replace nothing 4 (lower ∷ []) (upper ∷ []))
replaces_no_spelling may = let granted : false ≡ true = may.each_goes.0 refl in absurd cc
