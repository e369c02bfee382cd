-- What padded base64 stands for is octets (RFC 4648, section 4).
use Rattle.std.proofs.Common.{◌≡◌, ℕ, zero, suc, ◌+◌, ◌*◌, ◌/◌, ◌<◌, List, [], ◌∷◌, length, slice_index, Option, Some, None, Result, Ok, Err, refl, subst, arith, inl, inr}
use Rattle.std.specs.Result.{result_ok}
use Rattle.std.proofs.lemmas.Bool.{eq-eqb}
use Rattle.base64.specs.Decode.{decode_group, or_else, symbol_error, group_error, group_bytes, groups_error, groups_bytes, groups_before_last, lone_error, no_leftover, push_leftover, scan_steps, scan_bytes, leftover_bytes, decode_outcome, decoded_bytes, IsDecodeTable}
use Rattle.base64.specs.Engines.{standard}
use Rattle.base64.specs.declared.decode.DecodeError.{DecodeError}
use Rattle.base64.specs.GeneralPurpose.{IsBytes}
use Rattle.base64.proofs.Decoding.{IsLeftover, IsLeftover_next}
use Rattle.base64.proofs.Tables.{IsDecodeTable_from, are_tables_inverse}
use Rattle.ldif_load.specs.ldif_records.Fields.{decoded}
use Rattle.data_file.proofs.laws.OctetLemmas.{AreBelow, IsBytes-from_AreBelow, below_take, below_drop, AreBelow-append}

-- where neither is an error, the first is none, and so is the second
or_else_none : (one other : Option DecodeError) → or_else one other ≡ None → (one ≡ None) × (other ≡ None)
or_else_none None other none = (refl, none)
or_else_none (Some error) other none = absurd cc

-- four values of symbols are three octets
AreBelow-decode_group : (a b c d : ℕ) → a < 64 → b < 64 → c < 64 → d < 64 → AreBelow (decode_group a b c d)
AreBelow-decode_group a b c d first second third fourth = (omega arith, (omega arith, (omega arith, tt)))

-- a symbol that is no error has a value
symbol-below :
    (table text : List ℕ) (i : ℕ) → IsDecodeTable table → IsBytes text → symbol_error table text i ≡ None
    → slice_index table (slice_index text i) < 64
symbol-below table text i is octets none =
    elim (is (slice_index text i) (octets i)) [
      | inl past ↦ (let error = rw (eq-eqb (slice_index table (slice_index text i)) 255 past) at none in absurd cc)
      | inr below ↦ below
    ]

group-below :
    (table text : List ℕ) (i : ℕ) → IsDecodeTable table → IsBytes text → group_error table text i ≡ None
    → AreBelow (group_bytes table text i)
group-below table text i is octets none =
    let first = or_else_none (symbol_error table text i) _ none in
    let second = or_else_none (symbol_error table text (i + 1)) _ first.1 in
    let others = or_else_none (symbol_error table text (i + 2)) (symbol_error table text (i + 3)) second.1 in
    AreBelow-decode_group _ _ _ _ (symbol-below table text i is octets first.0) (symbol-below table text (i + 1) is octets second.0)
    (symbol-below table text (i + 2) is octets others.0) (symbol-below table text (i + 3) is octets others.1)

-- so the groups before the last are octets
groups-below :
    (table text : List ℕ) (count : ℕ) → IsDecodeTable table → IsBytes text → groups_error table text count ≡ None
    → AreBelow (groups_bytes table text count)
unfolding groups_error groups_bytes
groups-below table text zero is octets none = tt
groups-below table text (suc count) is octets none =
    let both = or_else_none (groups_error table text count) (group_error table text (4 * count)) none in
    AreBelow-append (groups_bytes table text count) (group_bytes table text (4 * count))
    (groups-below table text count is octets both.0) (group-below table text (4 * count) is octets both.1)

-- and those of the last
last-below : (state : _) (i : ℕ) → IsLeftover state i → AreBelow (leftover_bytes state)
last-below state i is =
    below_take (state.morsels_count * 6 / 8) _ (AreBelow-decode_group _ _ _ _ (is.3 0) (is.3 1) (is.3 2) (is.3 3))

scanned-below :
    (table : List ℕ) (pad at : ℕ) (read : Result _ DecodeError) (i : ℕ) (text : List ℕ) → IsDecodeTable table
    → AreBelow text → ((state : _) → read ≡ Ok state → IsLeftover state i)
    → AreBelow (scan_bytes (scan_steps table pad at read i text))
unfolding scan_steps
scanned-below table pad at (Err error) i text is octets state = tt
scanned-below table pad at (Ok state) i [] is octets states = last-below state i (states state refl)
scanned-below table pad at (Ok state) i (octet ∷ text) is octets states =
    scanned-below table pad at (push_leftover table pad at state i octet) (i + 1) text is octets.1
    (λ next pushed. IsLeftover_next table pad at state i octet next is (states state refl) octets.0 pushed)

-- nothing is left at first
zeros_below : (k : ℕ) → slice_index (0 ∷ 0 ∷ 0 ∷ 0 ∷ []) k < 64
zeros_below zero = omega arith
zeros_below (suc zero) = omega arith
zeros_below (suc (suc zero)) = omega arith
zeros_below (suc (suc (suc zero))) = omega arith
zeros_below (suc (suc (suc (suc k)))) = omega arith

nothing_left : (read : Result _ DecodeError) (state : _) → read ≡ Ok no_leftover → read ≡ Ok state → IsLeftover state 0
nothing_left read state start is =
    let same : no_leftover ≡ state = cc in
    subst (λ (left : _). IsLeftover left 0) same (omega arith, omega arith, omega arith, zeros_below)

-- so what a text decodes to is octets
AreBelow-decoded_bytes :
    (table : List ℕ) (pad : ℕ) (text : List ℕ) → IsDecodeTable table → AreBelow text
    → groups_error table text (groups_before_last (length text)) ≡ None → AreBelow (decoded_bytes table pad text)
AreBelow-decoded_bytes table pad text is octets none =
    let count = groups_before_last (length text) in
    AreBelow-append (groups_bytes table text count) _
    (groups-below table text count is (IsBytes-from_AreBelow text octets) none)
    (scanned-below table pad (4 * count) (Ok no_leftover) 0 _ is (below_drop (4 * count) text octets)
    (λ state. nothing_left (Ok no_leftover) state refl))

outcome_ok :
    (error : Option DecodeError) (octets value : List ℕ) → result_ok (decode_outcome error octets) ≡ Some value
    → (error ≡ None) × (octets ≡ value)
outcome_ok None octets value is = (refl, cc)
outcome_ok (Some error) octets value is = absurd cc

pub AreBelow-decoded : (text value : List ℕ) → AreBelow text → decoded text ≡ Some value → AreBelow value
unfolding decoded
AreBelow-decoded text value octets is =
    let found = outcome_ok _ _ value is in
    let besides_lone = or_else_none (lone_error standard.decode_table 61 text) _ found.0 in
    let groups = or_else_none (groups_error standard.decode_table text (groups_before_last (length text))) _ besides_lone.1 in
    subst AreBelow found.1
    (AreBelow-decoded_bytes standard.decode_table 61 text
    (IsDecodeTable_from standard.encode_table standard.decode_table
    (are_tables_inverse standard.encode_table standard.decode_table 61 standard.tables)) octets groups.0)
