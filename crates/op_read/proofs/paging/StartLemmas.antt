-- What a cookie says.
use Rattle.std.proofs.Common.{◌≡◌, ◌≢◌, ℕ, List, [], ◌∷◌, length, Some, None, refl, sym, ap, ◌∙◌, arith}
use Rattle.std.specs.Prelude.{Result, Ok, Err}
use Rattle.std.specs.Result.{result_ok}
use Rattle.dir_tree.specs.dn_names.name.Names.{RdnSequence}
use Rattle.dir_tree.specs.dn_names.declared.error.BadName.{BadName}
use Rattle.dir_tree.specs.dn_names.Printing.{print_name, print_by}
use Rattle.dir_tree.specs.dn_names.parsing.NameText.{read_name}
use Rattle.dir_tree.proofs.dn_names_proofs.Theorems.{read_name-print_name}
use Rattle.page_core.specs.Starts.{filled_name, start_of}

-- the empty name is printed as nothing, and nothing is read as the empty name
pub print-root : print_name [] ≡ []
unfolding print_name print_by
print-root = refl

read-nothing : read_name [] ≡ Ok []
read-nothing = ap read_name (sym print-root) ∙ read_name-print_name [] (record { fits = omega arith; good = tt })

-- the first page begins with the first entry
pub start-first : (cookie : List ℕ) (name : RdnSequence) → Some name ≡ result_ok (read_name cookie) → length cookie ≡ 0 → Some name ≡ start_of cookie
start-first [] name read empty = read ∙ ap result_ok read-nothing
start-first (octet ∷ octets) name read empty = absurd (omega arith)

-- a name that was read
filled : (read : Result RdnSequence BadName) (name : RdnSequence) → Some name ≡ result_ok read → length name ≢ 0 → Some name ≡ filled_name read
filled (Err bad) name is some = absurd cc
filled (Ok []) name is some = absurd (some (ap length (name_is is)))
  where
    name_is : Some name ≡ Some [] → name ≡ []
    name_is e = cc
filled (Ok (rdn ∷ rdns)) name is some = is

pub start-filled : (cookie : List ℕ) (name : RdnSequence) → Some name ≡ result_ok (read_name cookie) → length cookie ≢ 0 → length name ≢ 0 → Some name ≡ start_of cookie
start-filled [] name read more some = absurd (more refl)
start-filled (octet ∷ octets) name read more some = filled (read_name (octet ∷ octets)) name read some

-- the empty one is none
root-lost : (read : Result RdnSequence BadName) (name : RdnSequence) → Some name ≡ result_ok read → length name ≡ 0 → None ≡ filled_name read
root-lost (Err bad) name is empty = absurd cc
root-lost (Ok []) name is empty = refl
root-lost (Ok (rdn ∷ rdns)) name is empty = absurd (some (sym (ap length (name_is is)) ∙ empty))
  where
    name_is : Some name ≡ Some (rdn ∷ rdns) → name ≡ rdn ∷ rdns
    name_is e = cc

    some : length (rdn ∷ rdns) ≢ 0
    some e = omega arith

pub start-root : (cookie : List ℕ) (name : RdnSequence) → Some name ≡ result_ok (read_name cookie) → length cookie ≢ 0 → length name ≡ 0 → None ≡ start_of cookie
start-root [] name read more empty = absurd (more refl)
start-root (octet ∷ octets) name read more empty = root-lost (read_name (octet ∷ octets)) name read empty

-- what is no name
lost : (read : Result RdnSequence BadName) → None ≡ result_ok read → None ≡ filled_name read
lost (Err bad) is = refl
lost (Ok name) is = absurd cc

pub start-lost : (cookie : List ℕ) → None ≡ result_ok (read_name cookie) → None ≡ start_of cookie
start-lost [] read =
    let nothing : None ≡ Some [] = read ∙ ap result_ok read-nothing in
    absurd cc
start-lost (octet ∷ octets) read = lost (read_name (octet ∷ octets)) read
