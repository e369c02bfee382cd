-- Some filter's text begins with what stands behind frames: what is open can be ended.
use Rattle.std.proofs.Common.{◌≡◌, ℕ, true, false, List, [], ◌∷◌, ◌++◌, refl, sym, ap, subst, ◌∙◌, append_assoc, append-nil}
use Rattle.regular_text.specs.Place.{Begins}
use Rattle.ldap_filter.specs.filter.Filters.{Filter, filters_of}
use Rattle.ldap_filter.specs.filter.Filters.Filter.{And, Or, Not}
use Rattle.ldap_filter.specs.filter.Filters.Filters.{Nil}
use Rattle.filter_text.specs.declared.frame.Frame.{Frame}
use Rattle.filter_text.specs.declared.frame.Frame.TheVariants.{Start, Whole, Opened, All, Any, No, Negated, Item}
use Rattle.filter_text.specs.Items.{item_of}
use Rattle.filter_text.specs.FilterText.{IsText, IsFilterText}
use Rattle.filter_text.specs.FilterText.IsText.{ItemText, AndText, NotText}
use Rattle.filter_text.specs.FilterText.AreTexts.{NoTexts}
use Rattle.filter_text.specs.Reading.{Stack, may_open}
use Rattle.filter_text.proofs.laws.MachineOfItems.{finish}
use Rattle.filter_text.proofs.laws.ItemLemmas.{reads-finish}
use Rattle.filter_text.proofs.laws.CameTo.{FrameText, is_inner, CameTo, FrameText-filter, FrameText-closed, Behind}

-- (&)
abbrev all_of_none : List ℕ
all_of_none = 40 ∷ 38 ∷ 41 ∷ []

all_of_none-text : IsText (And Nil) all_of_none
all_of_none-text = AndText NoTexts

-- a filter's text within a frame where a filter may begin, and the end of that frame
around : (frame : Frame) (front text : List ℕ) (filter : Filter) → is_inner frame ≡ true → may_open frame ≡ true → FrameText frame front → IsText filter text → (whole : Filter) × IsText whole (front ++ (text ++ 41 ∷ []))
around Start front text filter inner opens came t = absurd cc
around (Whole other) front text filter inner opens came t = absurd cc
around Opened front text filter inner opens came t = absurd cc
around (All members) front text filter inner opens came t = (
  And (filters_of (members ++ filter ∷ [])),
  subst (λ (s : List ℕ). IsText (And (filters_of (members ++ filter ∷ []))) s) (append_assoc front text (41 ∷ []))
      (FrameText-closed (All (members ++ filter ∷ [])) (front ++ text) _ refl (FrameText-filter (All members) (All (members ++ filter ∷ [])) front text filter refl came t).1),
)
around (Any members) front text filter inner opens came t = (
  Or (filters_of (members ++ filter ∷ [])),
  subst (λ (s : List ℕ). IsText (Or (filters_of (members ++ filter ∷ []))) s) (append_assoc front text (41 ∷ []))
      (FrameText-closed (Any (members ++ filter ∷ [])) (front ++ text) _ refl (FrameText-filter (Any members) (Any (members ++ filter ∷ [])) front text filter refl came t).1),
)
around No front text filter inner opens came t = (
  Not filter,
  subst (λ (s : List ℕ). IsText (Not filter) s) (append_assoc front text (41 ∷ []))
      (FrameText-closed (Negated filter) (front ++ text) _ refl (FrameText-filter No (Negated filter) front text filter refl came t).1),
)
around (Negated other) front text filter inner opens came t = absurd cc
around (Item raw mode) front text filter inner opens came t = absurd cc

-- the frame that isn't open, where a filter may begin, has nothing behind it
outer-nothing : (frame : Frame) (front : List ℕ) → is_inner frame ≡ false → may_open frame ≡ true → FrameText frame front → front ≡ []
outer-nothing Start front outer opens came = came
outer-nothing (Whole other) front outer opens came = absurd cc
outer-nothing Opened front outer opens came = absurd cc
outer-nothing (All members) front outer opens came = absurd cc
outer-nothing (Any members) front outer opens came = absurd cc
outer-nothing No front outer opens came = absurd cc
outer-nothing (Negated other) front outer opens came = absurd cc
outer-nothing (Item raw mode) front outer opens came = absurd cc

-- a filter's text behind frames where a filter may begin
with_text : (frame : Frame) (below : List Frame) (front text : List ℕ) (filter : Filter) → may_open frame ≡ true → CameTo frame below front → IsText filter text → Begins IsFilterText (front ++ text)
with_text frame [] front text filter opens (outer, came) t =
    ([], (filter, subst (λ (s : List ℕ). IsText filter s) (sym (append-nil (front ++ text) ∙ ap (λ (s : List ℕ). s ++ text) (outer-nothing frame front outer opens came))) t))
with_text frame (next ∷ below) front text filter opens (inner, opens_next, early, late, is, rest, came) t =
    let whole = around frame late text filter inner opens came t in
    let more = with_text next below early (late ++ (text ++ 41 ∷ [])) whole.0 opens_next rest whole.1 in (
      41 ∷ more.0,
      (
        more.1.0,
        subst (λ (s : List ℕ). IsText more.1.0 s)
            (append_assoc early (late ++ (text ++ 41 ∷ [])) more.0
            ∙ ap (λ (s : List ℕ). early ++ s) (append_assoc late (text ++ 41 ∷ []) more.0 ∙ ap (λ (s : List ℕ). late ++ s) (append_assoc text (41 ∷ []) more.0))
            ∙ sym (append_assoc early late (text ++ 41 ∷ more.0))
            ∙ ap (λ (s : List ℕ). s ++ (text ++ 41 ∷ more.0)) (sym is)
            ∙ sym (append_assoc front text (41 ∷ more.0))) more.1.1,
      ),
    )

-- the octets that end an open frame
frame_end : (frame : Frame) (text : List ℕ) → is_inner frame ≡ true → FrameText frame text → (end : List ℕ) × (filter : Filter) × IsText filter (text ++ end)
frame_end Start text inner came = absurd cc
frame_end (Whole filter) text inner came = absurd cc
frame_end Opened text inner came = (38 ∷ 41 ∷ [], And Nil, subst (λ (s : List ℕ). IsText (And Nil) (s ++ 38 ∷ 41 ∷ [])) (sym came) all_of_none-text)
frame_end (All members) text inner came = (41 ∷ [], And (filters_of members), FrameText-closed (All members) text _ refl came)
frame_end (Any members) text inner came = (41 ∷ [], Or (filters_of members), FrameText-closed (Any members) text _ refl came)
frame_end No text inner came = (all_of_none ++ 41 ∷ [], Not (And Nil), subst (λ (s : List ℕ). IsText (Not (And Nil)) (s ++ (all_of_none ++ 41 ∷ []))) (sym came) (NotText all_of_none-text))
frame_end (Negated member) text inner came = (41 ∷ [], Not member, FrameText-closed (Negated member) text _ refl came)
frame_end (Item raw mode) text inner (is, leads) = (
  finish mode ++ 41 ∷ [],
  item_of (raw ++ finish mode),
  subst (λ (s : List ℕ). IsText (item_of (raw ++ finish mode)) s)
      (ap (λ (s : List ℕ). 40 ∷ s) (append_assoc raw (finish mode) (41 ∷ [])) ∙ ap (λ (s : List ℕ). s ++ (finish mode ++ 41 ∷ [])) (sym is))
      (ItemText (raw ++ finish mode) (leads (finish mode) (reads-finish mode))),
)

-- the frame that isn't open
outer-begins : (frame : Frame) (text : List ℕ) → is_inner frame ≡ false → FrameText frame text → Begins IsFilterText text
outer-begins Start text outer came = (all_of_none, (And Nil, subst (λ (s : List ℕ). IsText (And Nil) (s ++ all_of_none)) (sym came) all_of_none-text))
outer-begins (Whole filter) text outer came = ([], (filter, subst (λ (s : List ℕ). IsText filter s) (sym (append-nil text)) came))
outer-begins Opened text outer came = absurd cc
outer-begins (All members) text outer came = absurd cc
outer-begins (Any members) text outer came = absurd cc
outer-begins No text outer came = absurd cc
outer-begins (Negated member) text outer came = absurd cc
outer-begins (Item raw mode) text outer came = absurd cc

came-begins : (top : Frame) (below : List Frame) (text : List ℕ) → CameTo top below text → Begins IsFilterText text
came-begins top [] text (outer, came) = outer-begins top text outer came
came-begins top (frame ∷ below) text (inner, opens, front, back, is, rest, came) =
    let end = frame_end top back inner came in
    let more = with_text frame below front (back ++ end.0) end.1 opens rest end.2 in (
      end.0 ++ more.0,
      (
        more.1.0,
        subst (λ (s : List ℕ). IsText more.1.0 s)
            (append_assoc front (back ++ end.0) more.0
            ∙ ap (λ (s : List ℕ). front ++ s) (append_assoc back end.0 more.0)
            ∙ sym (append_assoc front back (end.0 ++ more.0))
            ∙ ap (λ (s : List ℕ). s ++ (end.0 ++ more.0)) (sym is)) more.1.1,
      ),
    )

-- some filter's text begins with the octets behind a stack
pub behind-begins : (text : List ℕ) (stack : Stack) → Behind text stack → Begins IsFilterText text
behind-begins text stack came = came-begins stack.top stack.below text came
