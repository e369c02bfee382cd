-- Lemmas on the last place where a block ends.
use Rattle.std.proofs.Common.{◌≡◌, ℕ, ◌+◌, ◌-◌, ◌<◌, ◌≤◌, ◌==◌, sym, ◌∙◌, ap, arith, true, false, List, [], ◌∷◌, ◌++◌, length, take, drop}
use Rattle.std.proofs.lemmas.Bool.{and_parts, eqb-true}
use Rattle.std.proofs.lemmas.List.{take-append-drop, drop-drop, length-take-le, length-drop}
use Rattle.std.proofs.Math.Seq.{take-append-add}
use Rattle.whole_blocks.specs.Blocks.{ends_block, whole_before, whole_part}
use Rattle.whole_blocks.proofs.laws.FrontLemmas.{whole-nothing, whole-none, whole-behind}

-- no block ends at an earlier place, either
pub nothing-more : (text : List ℕ) (from : ℕ) → 0 < from → whole_part (drop from text) ≡ [] → ends_block (drop (from - 1) text) ≡ false → whole_part (drop (from - 1) text) ≡ []
nothing-more text from past none ends = nothing-by (drop (from - 1) text) (ap whole_part (drop-drop 1 (from - 1) text ∙ ap (λ n. drop n text) (omega arith)) ∙ none) ends
  where
    nothing-by : (tail : List ℕ) → whole_part (drop 1 tail) ≡ [] → ends_block tail ≡ false → whole_part tail ≡ []
    nothing-by [] none ends = whole-none
    nothing-by (octet ∷ rest) none ends = whole-nothing octet rest none ends

-- the last block ends with the first two octets
pub record IsEnd (tail : List ℕ) : Type 0 where
  pub front : whole_part tail ≡ take 2 tail
  pub within : 2 ≤ length tail

end-by : (tail : List ℕ) → whole_part (drop 1 tail) ≡ [] → ends_block tail ≡ true → IsEnd tail
unfolding whole_part
end-by [] none ends = cc ends
end-by (octet ∷ []) none ends = cc (and_parts (octet == 10) false ends).1
end-by (octet ∷ next ∷ rest) none ends = record {
  front =
      ap (whole_before octet (next ∷ rest)) none
      ∙ rw ends (ap (λ found. octet ∷ found ∷ []) (sym (eqb-true next 10 (and_parts (octet == 10) (next == 10) ends).1)));
  within = omega arith;
}

-- and with it what stands before
pub record IsWholeTo (text : List ℕ) (end : ℕ) : Type 0 where
  pub exact : take end text ≡ whole_part text
  pub within : end ≤ length text

pub whole-to : (text : List ℕ) (from : ℕ) → 0 < from → from ≤ length text → whole_part (drop from text) ≡ [] → ends_block (drop (from - 1) text) ≡ true
    → IsWholeTo text (from - 1 + 2)
whole-to text from past within none ends =
    let place = from - 1 in
    let end = end-by (drop place text) (ap whole_part (drop-drop 1 place text ∙ ap (λ n. drop n text) (omega arith)) ∙ none) ends in
    let sized = length-take-le place text (omega arith) in
    let filled : 0 < length (whole_part (drop place text)) = omega (arith, ap length end.front, length-take-le 2 (drop place text) end.within) in
    record {
      exact =
          ap (λ front. take (place + 2) front) (sym (take-append-drop place text))
          ∙ ap (λ n. take (n + 2) (take place text ++ drop place text)) (sym sized)
          ∙ take-append-add (take place text) (drop place text) 2
          ∙ ap (λ found. take place text ++ found) (sym end.front)
          ∙ sym (whole-behind (take place text) (drop place text) filled)
          ∙ ap whole_part (take-append-drop place text);
      within = omega (arith, end.within, length-drop place text);
    }
