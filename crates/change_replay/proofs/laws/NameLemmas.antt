-- The new name of a rename: its superior's as the superior's entry spells it, and the new RDN.
use Rattle.std.proofs.Common.{◌≡◌, ◌≢◌, inl, inr, ℕ, ◌+◌, ◌-◌, ◌==◌, ◌<◌, ◌≤◌, suc, true, false, not, List, [], ◌∷◌, ◌++◌, length, take, reverse, if◌then◌else◌, Option, Some, None, Result, Ok, Err, refl, sym, ap, subst, ◌∙◌, length-append, arith}
use Rattle.std.specs.Prelude.{unwrap_or}
use Rattle.std.specs.List.{AllByRecursion}
use Rattle.std.specs.Option.{option_map_or}
use Rattle.std.proofs.lemmas.Bool.{cond_both, not-false, or_cases, or_left, or_right, true≢false}
use Rattle.std.proofs.lemmas.Bool.Decides.{nat_tests}
use Rattle.std.proofs.lemmas.List.{length-reverse, take_at}
use Rattle.dir_tree.specs.dn_names.declared.error.BadName.{BadName}
use Rattle.dir_tree.specs.dn_names.declared.error.BadName.TheVariants.{TooMany}
use Rattle.dir_tree.specs.dn_names.name.Names.{RdnSequence}
use Rattle.dir_tree.specs.dn_names.NameOrder.{is_same}
use Rattle.dir_tree.specs.dn_names.parsing.NameText.{RdnText}
use Rattle.dir_tree.specs.dn_names.name.GoodNames.{IsGoodName}
use Rattle.dir_tree.specs.dn_names.Spelling.{WrittenPair}
use Rattle.dir_tree.specs.dn_names.Resolving.{and_then, rdn_from, rdns_from, from_root, resolve_rdn}
use Rattle.dir_tree.proofs.dn_names_proofs.Theorems.{IsGoodName-from_RdnText, RdnText-read_rdn, IsGoodName-append}
use Rattle.dir_tree.specs.Entry.{EntryInformation}
use Rattle.dir_tree.specs.tree.Trees.{is_named, named_in, has_name, superior_name, lacks_superior, taken_out}
use Rattle.dir_tree.proofs.TreeTheorems.{length-same, length-superior as length-superior_name, filled, same_itself, same_back, same_like, same_over, has_name_like, has_superior, none_named, all_named as found_all, found_same}
use Rattle.change_laws.specs.op_modify.ldap_msg.declared.kinds.RenameRequest.{RenameRequest}
use Rattle.change_laws.specs.op_modify.declared.renaming.Renaming.{Renaming}
use Rattle.change_laws.specs.op_modify.ReadRenames.{above}
use Rattle.change_laws.specs.op_modify.Renames.{spelled_in, new_name}
use Rattle.change_replay.proofs.laws.RenamingLemmas.{IsRead}

-- what reads two parts reads each
both_read :
    {A B : Type 0} (found : Result A BadName) (next : A → Result B BadName) (value : B) → and_then found next ≡ Ok value
    → (given : A) × (found ≡ Ok given) × (next given ≡ Ok value)
both_read (Ok given) next value is = (given, refl, is)
both_read (Err fault) next value is = absurd cc

-- as many RDNs are read as are written
length-rdns_from :
    (index : ℕ) (written : List (List WrittenPair)) (out : RdnSequence) → rdns_from index written ≡ Ok out
    → length out ≡ length written
length-rdns_from index [] out is =
    let same : [] ≡ out = cc in
    sym (ap length same)
length-rdns_from index (first ∷ rest) out is =
    let one = both_read (rdn_from index [] first) (λ rdn. and_then (rdns_from (index + length first) rest) (λ rdns. Ok (rdn ∷ rdns))) out is in
    let later = both_read (rdns_from (index + length first) rest) (λ rdns. Ok (one.0 ∷ rdns)) out one.2 in
    let same : one.0 ∷ later.0 ≡ out = cc later.2 in
    sym (ap length same) ∙ ap suc (length-rdns_from (index + length first) rest later.0 later.1)

length-from_root :
    (written : List (List WrittenPair)) (name : RdnSequence) → from_root (rdns_from 0 written) ≡ Ok name
    → length name ≡ length written
length-from_root written name is =
    let found = both_read (rdns_from 0 written) (λ rdns. Ok (reverse rdns)) name is in
    let same : reverse found.0 ≡ name = cc found.2 in
    sym (ap length same) ∙ length-reverse found.0 ∙ length-rdns_from 0 written found.0 found.1

-- so the new RDN is one
one_rdn_of : (name : RdnSequence) (text : List ℕ) → RdnText name text → length name ≡ 1
unfolding RdnText resolve_rdn
one_rdn_of name text (written, spells, is) =
    (elim (length written == 1) as (λ one. (length written == 1) ≡ one → (if one then from_root (rdns_from 0 written) else Err TooMany) ≡ Ok name → length name ≡ 1) [
      | true ↦ λ one is. (let long = length-from_root written name is in grind (arith, nat_tests))
      | false ↦ λ one is. absurd cc
    ]) refl is

-- the superior's part is the superior's name as its entry spells it, and good
same-spelled :
    (name : RdnSequence) (entries : List EntryInformation) (found : Option EntryInformation) → named_in name entries ≡ found
    → is_same (option_map_or (λ entry. entry.name) found name) name ≡ true
same-spelled name entries None is = same_itself name
same-spelled name entries (Some superior) is = same_back name superior.name (found_same name superior entries is)

good-spelled :
    (name : RdnSequence) (entries : List EntryInformation) (found : Option EntryInformation) → named_in name entries ≡ found
    → has_name name entries ≡ true → AllByRecursion (λ entry. IsGoodName entry.name) entries
    → IsGoodName (option_map_or (λ entry. entry.name) found name)
good-spelled name entries None is has all = absurd (true≢false (sym has ∙ none_named (is_named name) entries is))
good-spelled name entries (Some superior) is has all =
    found_all (λ entry. IsGoodName entry.name) name superior entries all is

-- the last of one RDN is cut off
superior_name-join : (above rdn : RdnSequence) → length rdn ≡ 1 → superior_name (above ++ rdn) ≡ above
superior_name-join above rdn one =
    let long : length (above ++ rdn) - 1 ≡ length above = omega (arith, one, length-append above rdn) in
    ap (λ count. take count (above ++ rdn)) long ∙ take_at above rdn (length above) refl

-- another may stand below the superior
above-room :
    (name : RdnSequence) (superior : Option RdnSequence) → ((new : RdnSequence) → superior ≡ Some new → length new < 64)
    → length name ≤ 64 → name ≢ [] → length (unwrap_or superior (superior_name name)) < 64
above-room name None room fits some = omega (arith, fits, length-superior_name name, filled name some)
above-room name (Some new) room fits some = room new refl

-- a name that is there and isn't the one that is taken out is left
left_there :
    (name gone : RdnSequence) (entries : List EntryInformation) → is_same name gone ≡ false → has_name name entries ≡ true
    → has_name name (taken_out gone entries) ≡ true
left_there name gone [] other here = absurd cc
left_there name gone (first ∷ rest) other here = elim (or_cases (is_named name first) (has_name name rest) here) [
  | inl is ↦ cond_both (not (is_named gone first)) (first ∷ taken_out gone rest) (taken_out gone rest) (λ left. has_name name left ≡ true)
      (λ _. or_left (is_named name first) (has_name name (taken_out gone rest)) is)
      (λ out. absurd (true≢false (sym (same_over name first.name gone is (same_back gone first.name (not-false (is_named gone first) out))) ∙ other)))
  | inr later ↦ cond_both (not (is_named gone first)) (first ∷ taken_out gone rest) (taken_out gone rest) (λ left. has_name name left ≡ true)
      (λ _. or_right (is_named name first) (has_name name (taken_out gone rest)) (left_there name gone rest other later))
      (λ _. left_there name gone rest other later)
]

-- what the new name is
pub record IsNewName (entries : List EntryInformation) (old new : RdnSequence) : Type 0 where
  pub some : new ≢ []
  pub good : IsGoodName new
  pub under : lacks_superior new (taken_out old entries) ≡ false

module _ (entries : List EntryInformation) (request : RenameRequest) (renaming : Renaming) (target : EntryInformation)
    (all : AllByRecursion (λ entry. IsGoodName entry.name) entries) (named : renaming.name ≢ []) (found : named_in renaming.name entries ≡ Some target)
    (read : IsRead request renaming) (apart : is_same (above renaming) target.name ≡ false) (has : has_name (above renaming) entries ≡ true) where
  same : is_same (spelled_in entries (above renaming)) (above renaming) ≡ true
  same = same-spelled (above renaming) entries (named_in (above renaming) entries) refl

  fits : length renaming.name ≤ 64
  fits =
      let long = length-same renaming.name target.name (found_same renaming.name target entries found) in
      let good = found_all (λ entry. IsGoodName entry.name) renaming.name target entries all found in
      omega (arith, long, good.fits)

  pub IsNewName-read : IsNewName entries target.name (new_name entries renaming)
  IsNewName-read =
      let superior = spelled_in entries (above renaming) in
      let text = RdnText-read_rdn renaming.rdn request.new_rdn read.rdn_read in
      let one = one_rdn_of renaming.rdn request.new_rdn text in
      let long = length-same superior (above renaming) same in
      let room = above-room renaming.name renaming.superior read.room fits named in
      let other : is_same superior target.name ≡ false = same_like superior (above renaming) target.name same ∙ apart in
      let there : has_name superior entries ≡ true = has_name_like superior (above renaming) entries same ∙ has in
      record {
        some = λ none. omega (arith, ap length none, length-append superior renaming.rdn, one);
        good = IsGoodName-append superior renaming.rdn (good-spelled (above renaming) entries (named_in (above renaming) entries) refl has all)
            (IsGoodName-from_RdnText renaming.rdn request.new_rdn text) (omega (arith, long, room, one));
        under =
            has_superior (superior ++ renaming.rdn) (taken_out target.name entries)
            (subst (λ name. has_name name (taken_out target.name entries) ≡ true) (sym (superior_name-join superior renaming.rdn one))
            (left_there superior target.name entries other there));
      }
