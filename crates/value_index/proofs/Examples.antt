-- The definitions on values that are known.
use Rattle.std.proofs.Common.{◌≡◌, ℕ, true, false, List, [], ◌∷◌, refl}
use Rattle.std.specs.Prelude.{replicate, codes}
use Rattle.dir_tree.specs.dn_names.name.Names.{Keyed}
use Rattle.dir_tree.specs.Entry.{Attribute, EntryInformation}
use Rattle.value_index.specs.declared.index.Posting.{Posting}
use Rattle.value_index.specs.Hashes.{hash_step, hash_of, type_hash, hashes_of}
use Rattle.value_index.specs.Postings.{has_posting}
use Rattle.value_index.specs.Holders.{numbers_for}

-- the hash of a type alone, and of a type with `a`
of_type : type_hash 23 ≡ 84696374
unfolding hash_of hash_step
of_type = refl

of_letter : hash_of 23 (codes "a") ≡ 678870115
unfolding hash_of hash_step
of_letter = refl

-- two keys of one hash
equal_hashes : hash_of 23 (codes "coxthjyj@a.org") ≡ hash_of 23 (codes "jgrnyioy@a.org")
unfolding hash_of hash_step
equal_hashes = refl

-- a value whose key is its octets
abbrev keyed : List ℕ → Keyed
keyed octets = record { octets = octets; key = octets }

-- an entry of one class, one mailbox and so many members
abbrev with_members : ℕ → EntryInformation
with_members count = record {
  name = [];
  attributes =
      record { kind = 0; values = keyed (codes "2.5.6.9") ∷ [] }
      ∷ record { kind = 23; values = keyed (codes "a") ∷ [] }
      ∷ record { kind = 14; values = replicate count (keyed (codes "b")) } ∷ [];
}

-- classes are not posted; two members are posted each, and 33 once
few_members : hashes_of (with_members 2) ≡ hash_of 23 (codes "a") ∷ hash_of 14 (codes "b") ∷ hash_of 14 (codes "b") ∷ []
few_members = refl

many_members : hashes_of (with_members 33) ≡ hash_of 23 (codes "a") ∷ type_hash 14 ∷ []
many_members = refl

-- the number 3 under two hashes, and 5 under one of them
abbrev three_postings : List Posting
three_postings = record { hash = 7; number = 3 } ∷ record { hash = 84696374; number = 5 } ∷ record { hash = 678870115; number = 3 } ∷ []

posted : has_posting 7 3 three_postings ≡ true
posted = refl

not_posted : has_posting 7 5 three_postings ≡ false
not_posted = refl

-- for a value those under its hash are named, and those under that of its type
named : numbers_for 23 (codes "a") three_postings ≡ 3 ∷ 5 ∷ []
unfolding hash_of hash_step
named = refl
