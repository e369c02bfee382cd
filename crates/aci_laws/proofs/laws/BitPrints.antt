-- Printed bits are read as they were, where they stand in order.
use Rattle.std.proofs.Common.{◌≡◌, ℕ, suc, Bool, true, false, List, [], ◌∷◌, ◌++◌, refl, sym, ap, ◌∙◌, append_assoc}
use Rattle.std.proofs.lemmas.List.{append-nil}
use Rattle.std.proofs.lemmas.List.Folds.{list_any-append}
use Rattle.std.specs.Prelude.{◌==◌, ◌||◌, find, map, Option, Some, None}
use Rattle.std.specs.List.{list_any}
use Rattle.std.specs.Str.{bytes_eq}
use Rattle.gser_tree.specs.Lexemes.{class_of, is_word}
use Rattle.gser_tree.specs.looking.Looking.{members_in}
use Rattle.gser_tree.specs.looking.Shapes.{Shape}
use Rattle.gser_tree.specs.Reading.{expect, gather, give, ◌>>=◌}
use Rattle.gser_tree.specs.Writing.{print_word}
use Rattle.gser_tree.proofs.Theorems.{listed_gathered, AreWritten, IsRead, Prints, none_are_written, more_are_written, braces_are_written, word_is_written}
use Rattle.aci_item.specs.declared.permission.Permission.{Permission}
use Rattle.aci_item.specs.declared.permission.Permission.TheVariants.{Add, DiscloseOnError, Read, Remove, Browse, Export, Import, Modify, Rename, ReturnDn, Compare, FilterMatch, Invoke}
use Rattle.subtree_spec.specs.Parts.{set_of}
use Rattle.aci_laws.specs.GoodItems.{AreGoodBits}
use Rattle.aci_laws.proofs.laws.MembersLemmas.{gathered_into}
use Rattle.aci_item.specs.members.ItemParts.{bit, bits}
use Rattle.aci_item.specs.ItemPrinted.{bit_name, print_bits}
use Rattle.aci_item.specs.Permission.{Bit, all_bits, bit_place, in_order, is_among, is_bit, put_bit}
use Rattle.aci_item.specs.Sets.{gather_into}
use Rattle.aci_item.proofs.Theorems.{among_filtered, filtered}

bit_word : (permission : Permission) (grants : Bool) → is_word (bit_name (record { permission = permission; grants = grants })) ≡ true
unfolding class_of
bit_word Add true = refl
bit_word DiscloseOnError true = refl
bit_word Read true = refl
bit_word Remove true = refl
bit_word Browse true = refl
bit_word Export true = refl
bit_word Import true = refl
bit_word Modify true = refl
bit_word Rename true = refl
bit_word ReturnDn true = refl
bit_word Compare true = refl
bit_word FilterMatch true = refl
bit_word Invoke true = refl
bit_word Add false = refl
bit_word DiscloseOnError false = refl
bit_word Read false = refl
bit_word Remove false = refl
bit_word Browse false = refl
bit_word Export false = refl
bit_word Import false = refl
bit_word Modify false = refl
bit_word Rename false = refl
bit_word ReturnDn false = refl
bit_word Compare false = refl
bit_word FilterMatch false = refl
bit_word Invoke false = refl

bit_found : (permission : Permission) (grants : Bool)
    → find (λ bit. bytes_eq (bit_name (record { permission = permission; grants = grants })) (bit_name bit)) all_bits
    ≡ Some (record { permission = permission; grants = grants })
bit_found Add true = refl
bit_found DiscloseOnError true = refl
bit_found Read true = refl
bit_found Remove true = refl
bit_found Browse true = refl
bit_found Export true = refl
bit_found Import true = refl
bit_found Modify true = refl
bit_found Rename true = refl
bit_found ReturnDn true = refl
bit_found Compare true = refl
bit_found FilterMatch true = refl
bit_found Invoke true = refl
bit_found Add false = refl
bit_found DiscloseOnError false = refl
bit_found Read false = refl
bit_found Remove false = refl
bit_found Browse false = refl
bit_found Export false = refl
bit_found Import false = refl
bit_found Modify false = refl
bit_found Rename false = refl
bit_found ReturnDn false = refl
bit_found Compare false = refl
bit_found FilterMatch false = refl
bit_found Invoke false = refl

bit_prints : (most : ℕ) (value : Bit) → Prints most bit (print_word (bit_name value)) value
unfolding bit
bit_prints most value =
    word_is_written most (IsRead bit value) (bit_name value) (bit_word value.permission value.grants)
    (λ place bad. rw (bit_found value.permission value.grants) refl)

-- a test by one more
either : (one other : Bool) → (one || other) ≡ (other || (one || false))
either true true = refl
either true false = refl
either false true = refl
either false false = refl

-- one more bit among bits in order
put_bit-next : (seen : List Bit) (value : Bit) → put_bit value (in_order seen) ≡ in_order (seen ++ value ∷ [])
put_bit-next seen value = filtered (is_among (value ∷ in_order seen)) (is_among (seen ++ value ∷ [])) each all_bits
  where
    each : (b : Bit) → is_among (value ∷ in_order seen) b ≡ is_among (seen ++ value ∷ []) b
    each b =
        ap (λ t. is_bit b value || t) (among_filtered (λ place. list_any (λ other. place == bit_place other) seen) b)
        ∙ either (is_bit b value) (is_among seen b)
        ∙ sym (list_any-append (is_bit b) seen (value ∷ []))

-- bits, read behind others
AreBits : List Bit → List Shape → Type 0
AreBits values members = (seen : List Bit) (bad : Option ℕ)
    → gather_into put_bit bit (in_order seen) members bad ≡ Some (record { value = in_order (seen ++ values); bad = bad })

more_bits : (value : Bit) (values : List Bit) (shape : Shape) (members : List Shape) → IsRead bit value shape → AreBits values members
    → AreBits (value ∷ values) (shape ∷ members)
unfolding AreBits
more_bits value values shape members here behind seen bad =
    rw (here bad)
    (ap (λ s. gather_into put_bit bit s members bad) (put_bit-next seen value)
    ∙ behind (seen ++ value ∷ []) bad
    ∙ ap (λ s. Some (record { value = in_order s; bad = bad })) (append_assoc seen (value ∷ []) values))

bits_are_written : (most : ℕ) (values : List Bit) → AreWritten most (AreBits values) (map (λ bit. print_word (bit_name bit)) values)
unfolding AreBits
bits_are_written most [] = none_are_written most (AreBits []) (λ seen bad. ap (λ s. Some (record { value = in_order s; bad = bad })) (sym (append-nil seen)))
bits_are_written most (value ∷ values) =
    more_are_written most (IsRead bit value) (AreBits values) (AreBits (value ∷ values)) (print_word (bit_name value)) (map (λ bit. print_word (bit_name bit)) values)
    (bit_prints most value) (bits_are_written most values) (λ shape members here behind. more_bits value values shape members here behind)

pub bits_print : (most : ℕ) (values : List Bit) → AreGoodBits values → Prints (suc most) bits (print_bits values) values
unfolding bits AreBits
bits_print most values good =
    braces_are_written most (AreBits values) (IsRead bits values) (map (λ bit. print_word (bit_name bit)) values) (bits_are_written most values)
    (λ members has bad. rw (listed_gathered members) (has [] bad ∙ ap (λ s. Some (record { value = s; bad = bad })) good))

-- bits that are read are all of them, in order
pub bits-in_order : (shape : Shape) (bad : Option ℕ) → bits shape bad ≡ (set_of bit shape >>= λ all. give (in_order all)) bad
unfolding bits
bits-in_order shape bad = inner (members_in shape)
  where
    inner : (found : Option (List Shape))
        → (expect found >>= gather_into put_bit bit []) bad ≡ ((expect found >>= gather bit []) >>= λ (all : List Bit). give (in_order all)) bad
    inner None = refl
    inner (Some shapes) = sym (gathered_into put_bit in_order bit (λ seen value. sym (put_bit-next seen value)) [] shapes bad)

-- bits in order are the same bits
pub is_among-in_order : (all : List Bit) (one : Bit) → is_among (in_order all) one ≡ is_among all one
is_among-in_order all one = among_filtered (λ place. list_any (λ other. place == bit_place other) all) one
