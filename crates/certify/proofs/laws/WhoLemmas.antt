-- A requester whom a word says is said by the line of who asks, and a good name by the line of its text.
use Rattle.std.proofs.Common.{◌≡◌, ℕ, ◌==◌, ◌∙◌, ◌⊎◌, sym, ap, subst, refl, inl, inr, Bool, true, false, List, ◌++◌, length, option_map, Option, Some, None, Result, Ok, Err}
use Rattle.std.specs.Prelude.{codes, if◌then◌else◌, option_and_then}
use Rattle.std.specs.Result.{result_ok}
use Rattle.std.specs.Str.{bytes_eq}
use Rattle.std.proofs.lemmas.Bool.{false_from_ne_true}
use Rattle.std.proofs.lemmas.Slice.Eq.{bytes_eq-Decides}
use Rattle.dir_tree.specs.dn_names.Classes.{class_of}
use Rattle.dir_tree.specs.dn_names.Modes.{text_fault}
use Rattle.dir_tree.specs.dn_names.Printing.{print_name}
use Rattle.dir_tree.specs.dn_names.declared.error.BadName.{BadName}
use Rattle.dir_tree.specs.dn_names.name.Names.{RdnSequence}
use Rattle.dir_tree.specs.dn_names.name.GoodNames.{IsGoodName}
use Rattle.dir_tree.specs.dn_names.parsing.NameText.{read_name}
use Rattle.dir_tree.proofs.dn_names_proofs.Theorems.{NameText-read_name, IsGoodName-from_NameText}
use Rattle.acdf_filters.specs.aci_item.declared.level.Level.TheVariants.{Simple}
use Rattle.acdf_filters.specs.declared.asking.Requester.{Requester}
use Rattle.line_text.specs.Escapes.{one_line}
use Rattle.line_text.proofs.Theorems.{read_name-one_line}
use Rattle.explanation.specs.NameWords.{name_in, anonymous, requester, who_of}
use Rattle.certify.specs.FormLines.{behind}
use Rattle.certify.specs.Certificate.{who_line}
use Rattle.certify.proofs.laws.WordLemmas.{after-front}
use Rattle.certify.proofs.laws.LineLemmas.{HasGoodName, shown}

-- the text of a good name is read as it
pub name_in-one_line : (name : RdnSequence) → IsGoodName name → name_in (one_line (print_name name)) ≡ Some name
name_in-one_line name good = ap result_ok (read_name-one_line name good)

-- also behind a word
pub behind-name : (word : List ℕ) (name : RdnSequence) → IsGoodName name → behind word name_in (word ++ one_line (print_name name)) ≡ Some name
behind-name word name good = ap (option_and_then name_in) (after-front word (one_line (print_name name))) ∙ name_in-one_line name good

-- a name that is read is good
name_in-good : (text : List ℕ) (name : RdnSequence) → name_in text ≡ Some name → IsGoodName name
name_in-good text name read = by (read_name text) refl read
  where
    by : (result : Result RdnSequence BadName) → read_name text ≡ result → result_ok result ≡ Some name → IsGoodName name
    by (Err cause) result read = absurd cc
    by (Ok found) result read =
        let same : found ≡ name = cc in
        subst IsGoodName same (IsGoodName-from_NameText found text (NameText-read_name found text result))

-- a requester with a name that isn't empty, known by a password
pub record IsNamed (who : Requester) : Type 0 where
  pub name : RdnSequence
  pub exact : who ≡ record { name = Some name; level = Simple }
  pub good : IsGoodName name
  pub filled : (length name == 0) ≡ false

-- a word says an anonymous requester, or one with a name
requester-said : (name : RdnSequence) (who : Requester) → IsGoodName name → requester name ≡ who → (who ≡ anonymous) ⊎ IsNamed who
requester-said name who good said = by (length name == 0) refl said
  where
    by : (is_empty : Bool) → (length name == 0) ≡ is_empty → (if is_empty then anonymous else record { name = Some name; level = Simple }) ≡ who
        → (who ≡ anonymous) ⊎ IsNamed who
    by true filled said = inl (sym said)
    by false filled said = inr (record { name = name; exact = sym said; good = good; filled = filled })

who-said : (word : List ℕ) (who : Requester) → who_of word ≡ Some who → (who ≡ anonymous) ⊎ IsNamed who
unfolding who_of
who-said word who said = by (bytes_eq word (codes "anonymous")) (name_in word) refl said
  where
    by : (is_anonymous : Bool) (read : Option RdnSequence) → name_in word ≡ read
        → (if is_anonymous then Some anonymous else option_map requester read) ≡ Some who → (who ≡ anonymous) ⊎ IsNamed who
    by true read found said = inl (let same : anonymous ≡ who = cc in sym same)
    by false None found said = absurd cc
    by false (Some name) found said = (let same : requester name ≡ who = cc in requester-said name who (name_in-good word name found) same)

-- `anonymous` is no name
no_name : name_in (codes "anonymous") ≡ None
unfolding read_name text_fault class_of
no_name = refl

-- the line of who asks
anonymous-read : behind (codes "who ") who_of (shown (who_line None)) ≡ Some anonymous
unfolding who_of
anonymous-read = refl

other_word : (name : RdnSequence) → IsGoodName name → bytes_eq (one_line (print_name name)) (codes "anonymous") ≡ false
other_word name good =
    false_from_ne_true (bytes_eq (one_line (print_name name)) (codes "anonymous"))
    (λ is. (let same = (bytes_eq-Decides (one_line (print_name name)) (codes "anonymous")).0 is in
    let none : None ≡ Some name = sym no_name ∙ ap name_in (sym same) ∙ name_in-one_line name good in cc))

named-read : (name : RdnSequence) → IsGoodName name → (length name == 0) ≡ false
    → behind (codes "who ") who_of (shown (who_line (Some name))) ≡ Some (record { name = Some name; level = Simple })
unfolding who_of
named-read name good filled =
    let text = one_line (print_name name) in
    ap (option_and_then who_of) (after-front (codes "who ") text)
    ∙ ap (λ is. if is then Some anonymous else option_map requester (name_in text)) (other_word name good)
    ∙ ap (option_map requester) (name_in-one_line name good)
    ∙ ap (λ is. Some (if is then anonymous else record { name = Some name; level = Simple })) filled

who-by : (who : Requester) → (who ≡ anonymous) ⊎ IsNamed who → behind (codes "who ") who_of (shown (who_line who.name)) ≡ Some who
who-by who (inl is) = subst (λ (who : Requester). behind (codes "who ") who_of (shown (who_line who.name)) ≡ Some who) (sym is) anonymous-read
who-by who (inr named) =
    subst (λ (who : Requester). behind (codes "who ") who_of (shown (who_line who.name)) ≡ Some who) (sym named.exact) (named-read named.name named.good named.filled)

pub who_of-line : (word : List ℕ) (who : Requester) → who_of word ≡ Some who → behind (codes "who ") who_of (shown (who_line who.name)) ≡ Some who
who_of-line word who said = who-by who (who-said word who said)

-- its name, if there is one, is good
good-by : (who : Requester) → (who ≡ anonymous) ⊎ IsNamed who → HasGoodName who.name
good-by who (inl is) = subst (λ (who : Requester). HasGoodName who.name) (sym is) tt
good-by who (inr named) = subst (λ (who : Requester). HasGoodName who.name) (sym named.exact) named.good

pub who_of-good : (word : List ℕ) (who : Requester) → who_of word ≡ Some who → HasGoodName who.name
who_of-good word who said = good-by who (who-said word who said)
