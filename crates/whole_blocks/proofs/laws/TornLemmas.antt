-- Lemmas on a text of blocks that was cut.
use Rattle.std.proofs.Common.{◌≡◌, ℕ, zero, suc, ◌+◌, ◌-◌, ◌<◌, ◌≤◌, ◌==◌, inl, inr, sym, ◌∙◌, ap, subst, refl, arith, true, false, List, [], ◌∷◌, ◌++◌, length, take}
use Rattle.std.specs.List.{flat_map, list_all, AllByRecursion}
use Rattle.std.proofs.lemmas.Bool.{and_parts, not-true, cases_lt}
use Rattle.std.proofs.lemmas.List.{append-nil, append_assoc, length-append, take_all, take-append-le}
use Rattle.std.proofs.Math.Seq.{take-append-add}
use Rattle.whole_blocks.specs.Blocks.{is_within, IsLine, IsBlock, ended, block_text, blocks_text, begins_with_feed, ends_block, whole_part}
use Rattle.whole_blocks.specs.Laws.{IsFrontOf}
use Rattle.whole_blocks.proofs.laws.FrontLemmas.{whole-block, whole-nothing, whole-none, not_feed}

-- a text that was cut anywhere before its end has no whole block
record IsOpen (text : List ℕ) : Type 0 where
  nothing : (count : ℕ) → count < length text → whole_part (take count text) ≡ []

-- the two line feeds at the end of a block
open-feeds : IsOpen (10 ∷ 10 ∷ [])
open-feeds = record { nothing = nothing_before }
  where
    nothing_before : (count : ℕ) → count < 2 → whole_part (take count (10 ∷ 10 ∷ [])) ≡ []
    nothing_before zero within = whole-none
    nothing_before (suc zero) within = whole-nothing 10 [] whole-none refl
    nothing_before (suc (suc count)) within = absurd (omega arith)

-- an octet before such a text
open-by : (octet : ℕ) (text : List ℕ) → ((count : ℕ) → ends_block (octet ∷ take count text) ≡ false) → IsOpen text → IsOpen (octet ∷ text)
open-by octet text ends uncut = record { nothing = nothing_before octet text ends uncut }
  where
    nothing_before : (octet : ℕ) (text : List ℕ) → ((count : ℕ) → ends_block (octet ∷ take count text) ≡ false) → IsOpen text → (count : ℕ) → count < length (octet ∷ text)
        → whole_part (take count (octet ∷ text)) ≡ []
    nothing_before octet text ends uncut zero within = whole-none
    nothing_before octet text ends uncut (suc count) within = whole-nothing octet (take count text) (uncut.nothing count (omega arith)) (ends count)

begins-take : (text : List ℕ) (count : ℕ) → begins_with_feed text ≡ false → begins_with_feed (take count text) ≡ false
begins-take text zero begins = refl
begins-take [] (suc count) begins = refl
begins-take (octet ∷ text) (suc count) begins = begins

-- a line before such a text
open-line : (line text : List ℕ) → list_all is_within line ≡ true → IsOpen text → IsOpen (line ++ text)
open-line [] text all uncut = uncut
open-line (octet ∷ line) text all uncut =
    let both = and_parts (is_within octet) (list_all is_within line) all in
    let other : (octet == 10) ≡ false = not-true (octet == 10) both.0 in
    open-by octet (line ++ text) (λ count. not_feed octet (take count (line ++ text)) other) (open-line line text both.1 uncut)

-- a line is no feed at its front
line-begins : (line rest : List ℕ) → IsLine line → begins_with_feed (line ++ rest) ≡ false
line-begins [] rest is = absurd (omega (arith, is.filled))
line-begins (octet ∷ line) rest is = not-true (octet == 10) (and_parts (is_within octet) (list_all is_within line) is.within).0

-- the text of a block by its first line
text-first : (line : List ℕ) (more : List (List ℕ)) → block_text (line ∷ more) ≡ line ++ 10 ∷ block_text more
text-first line more =
    append_assoc (ended line) (flat_map ended more) (10 ∷ []) ∙ append_assoc line (10 ∷ []) (block_text more)

block-begins : (line : List ℕ) (more : List (List ℕ)) (rest : List ℕ) → IsLine line → begins_with_feed (block_text (line ∷ more) ++ rest) ≡ false
block-begins line more rest is =
    ap (λ text. begins_with_feed (text ++ rest)) (text-first line more)
    ∙ ap begins_with_feed (append_assoc line (10 ∷ block_text more) rest)
    ∙ line-begins line (10 ∷ block_text more ++ rest) is

-- the text of a block
open-block : (line : List ℕ) (more : List (List ℕ)) → IsLine line → AllByRecursion IsLine more → IsOpen (block_text (line ∷ more))
open-block line [] is are = subst IsOpen (sym (text-first line [])) (open-line line (10 ∷ 10 ∷ []) is.within open-feeds)
open-block line (next ∷ more) is are =
    subst IsOpen (sym (text-first line (next ∷ more)))
    (open-line line (10 ∷ block_text (next ∷ more)) is.within
    (open-by 10 (block_text (next ∷ more)) (λ count. begins-take (block_text (next ∷ more)) count (next-begins next more are.0)) (open-block next more are.0 are.1)))
  where
    next-begins : (next : List ℕ) (more : List (List ℕ)) → IsLine next → begins_with_feed (block_text (next ∷ more)) ≡ false
    next-begins next more is = ap begins_with_feed (sym (append-nil (block_text (next ∷ more)))) ∙ block-begins next more [] is

-- it ends with an empty line
block-ends : (line : List ℕ) (more : List (List ℕ)) → (front : List ℕ) × (block_text (line ∷ more) ≡ front ++ 10 ∷ 10 ∷ [])
block-ends line [] = (line, text-first line [])
block-ends line (next ∷ more) =
    let others = block-ends next more in (
      line ++ 10 ∷ others.0,
      text-first line (next ∷ more) ∙ ap (λ text. line ++ 10 ∷ text) others.1 ∙ sym (append_assoc line (10 ∷ others.0) (10 ∷ 10 ∷ [])),
    )

-- a block before a text that doesn't begin with a line feed
front-whole : (front block rest : List ℕ) → block ≡ front ++ 10 ∷ 10 ∷ [] → begins_with_feed rest ≡ false → whole_part (block ++ rest) ≡ block ++ whole_part rest
front-whole front block rest is begins =
    ap (λ text. whole_part (text ++ rest)) is
    ∙ ap whole_part (append_assoc front (10 ∷ 10 ∷ []) rest)
    ∙ whole-block front rest begins
    ∙ ap (λ text. text ++ whole_part rest) (sym is)

block-whole : (block : List (List ℕ)) (rest : List ℕ) → IsBlock block → begins_with_feed rest ≡ false → whole_part (block_text block ++ rest) ≡ block_text block ++ whole_part rest
block-whole [] rest is begins = absurd (omega (arith, is.filled))
block-whole (line ∷ more) rest is begins =
    let ends = block-ends line more in
    front-whole ends.0 (block_text (line ∷ more)) rest ends.1 begins

block-open : (block : List (List ℕ)) → IsBlock block → IsOpen (block_text block)
block-open [] is = absurd (omega (arith, is.filled))
block-open (line ∷ more) is = open-block line more is.lines.0 is.lines.1

-- blocks don't begin with a line feed
first-begins : (block : List (List ℕ)) (rest : List ℕ) → IsBlock block → begins_with_feed (block_text block ++ rest) ≡ false
first-begins [] rest is = absurd (omega (arith, is.filled))
first-begins (line ∷ more) rest is = block-begins line more rest is.lines.0

blocks-begin : (blocks : List (List (List ℕ))) → AllByRecursion IsBlock blocks → begins_with_feed (blocks_text blocks) ≡ false
blocks-begin [] are = refl
blocks-begin (block ∷ rest) are = first-begins block (blocks_text rest) are.0

-- the first block stands before the cut
cut-behind : (block : List (List ℕ)) (rest : List (List (List ℕ))) (more : ℕ) → IsBlock block → AllByRecursion IsBlock rest
    → whole_part (take (length (block_text block) + more) (block_text block ++ blocks_text rest)) ≡ block_text block ++ whole_part (take more (blocks_text rest))
cut-behind block rest more is are =
    ap whole_part (take-append-add (block_text block) (blocks_text rest) more)
    ∙ block-whole block (take more (blocks_text rest)) is (begins-take (blocks_text rest) more (blocks-begin rest are))

-- or the cut is in it
cut-within : (block : List (List ℕ)) (rest : List ℕ) (count : ℕ) → IsBlock block → count < length (block_text block) → whole_part (take count (block_text block ++ rest)) ≡ []
cut-within block rest count is within =
    ap whole_part (take-append-le count (block_text block) rest (omega arith)) ∙ (block-open block is).nothing count within

-- a text of blocks that is cut anywhere
torn : (blocks : List (List (List ℕ))) (count : ℕ) → AllByRecursion IsBlock blocks → IsFrontOf [] blocks (take count (blocks_text blocks))
torn [] count are = record { kept = 0; front = ap whole_part (take_all count [] (omega arith)) ∙ whole-none }
torn (block ∷ rest) count are =
    elim (cases_lt count (length (block_text block))) [
      | inl within ↦ record { kept = 0; front = cut-within block (blocks_text rest) count are.0 within }
      | inr behind ↦ let others = torn rest (count - length (block_text block)) are.1 in record {
        kept = suc others.kept;
        front =
            ap (λ n. whole_part (take n (block_text block ++ blocks_text rest))) (omega arith)
            ∙ cut-behind block rest (count - length (block_text block)) are.0 are.1
            ∙ ap (λ text. block_text block ++ text) others.front;
      }
    ]

-- and behind some of them
pub whole-cut : (done more : List (List (List ℕ))) (count : ℕ) → AllByRecursion IsBlock done → AllByRecursion IsBlock more → length (blocks_text done) ≤ count
    → IsFrontOf done more (take count (blocks_text (done ++ more)))
whole-cut [] more count these others within = torn more count others
whole-cut (block ∷ done) more count these others within =
    let rest = whole-cut done more (count - length (block_text block)) these.1 others (omega (arith, length-append (block_text block) (blocks_text done))) in
    record {
      kept = rest.kept;
      front =
          ap (λ n. whole_part (take n (block_text block ++ blocks_text (done ++ more)))) (omega (arith, length-append (block_text block) (blocks_text done)))
          ∙ cut-behind block (done ++ more) (count - length (block_text block)) these.0 (all-append done more these.1 others)
          ∙ ap (λ text. block_text block ++ text) rest.front;
    }
  where
    all-append : (done more : List (List (List ℕ))) → AllByRecursion IsBlock done → AllByRecursion IsBlock more → AllByRecursion IsBlock (done ++ more)
    all-append [] more these others = others
    all-append (block ∷ done) more these others = (these.0, all-append done more these.1 others)

-- a text of blocks is whole
pub whole-all : (blocks : List (List (List ℕ))) → AllByRecursion IsBlock blocks → whole_part (blocks_text blocks) ≡ blocks_text blocks
whole-all [] are = whole-none
whole-all (block ∷ rest) are = block-whole block (blocks_text rest) are.0 (blocks-begin rest are.1) ∙ ap (λ text. block_text block ++ text) (whole-all rest are.1)
