-- What stands behind the frames that are open, and that an octet keeps it.
use Rattle.std.proofs.Common.{◌≡◌, ℕ, Bool, true, false, List, [], ◌∷◌, ◌++◌, Option, Some, None, refl, sym, ap, subst, ◌∙◌, append_assoc, append-nil}
use Rattle.std.specs.Prelude.{IfSome, if◌then◌else◌, option_map, option_and_then}
use Rattle.ldap_filter.specs.filter.Filters.{Filter, filters_of}
use Rattle.ldap_filter.specs.filter.Filters.Filter.{And, Or, Not}
use Rattle.filter_text.specs.declared.classes.Class.{Class}
use Rattle.filter_text.specs.declared.classes.Class.TheVariants.{Open, Close, Ampersand, Vertbar, Exclamation}
use Rattle.filter_text.specs.declared.frame.Frame.{Frame}
use Rattle.filter_text.specs.declared.frame.Frame.TheVariants.{Start, Whole, Opened, All, Any, No, Negated, Item}
use Rattle.filter_text.specs.declared.modes.Mode.{Mode}
use Rattle.filter_text.specs.declared.modes.Mode.TheVariants as modes
use Rattle.filter_text.specs.Classes.{class_of}
use Rattle.filter_text.specs.ItemGrammar.{IsItemText}
use Rattle.filter_text.specs.Items.{item_of}
use Rattle.filter_text.specs.Modes.{begin_of, step_of, may_end}
use Rattle.filter_text.specs.FilterText.{IsText, AreTexts}
use Rattle.filter_text.specs.FilterText.IsText.{ItemText, AndText, OrText, NotText}
use Rattle.filter_text.specs.FilterText.AreTexts.{NoTexts, MoreTexts}
use Rattle.filter_text.specs.Reading.{Stack, may_open, closed, with_filter, begun, with_octet, on_top, close_in, step_by, step}
use Rattle.filter_text.proofs.laws.ClassLemmas.{octet_of}
use Rattle.filter_text.proofs.laws.ItemLemmas.{Reads, reads-cons, ends-reads}

-- the octets of an item lead to the state: what it reads ends the item
abbrev pub LeadsTo : List ℕ → Mode → Type 0
LeadsTo raw mode = (more : List ℕ) → Reads mode more → IsItemText (raw ++ more)

-- the octets stand behind the frame
abbrev pub FrameText : Frame → List ℕ → Type 0
FrameText Start text = text ≡ []
FrameText (Whole filter) text = IsText filter text
FrameText Opened text = text ≡ 40 ∷ []
FrameText (All members) text = (inner : List ℕ) × (text ≡ 40 ∷ 38 ∷ inner) × AreTexts members inner
FrameText (Any members) text = (inner : List ℕ) × (text ≡ 40 ∷ 124 ∷ inner) × AreTexts members inner
FrameText No text = text ≡ 40 ∷ 33 ∷ []
FrameText (Negated member) text = (inner : List ℕ) × (text ≡ 40 ∷ 33 ∷ inner) × IsText member inner
FrameText (Item raw mode) text = (text ≡ 40 ∷ raw) × LeadsTo raw mode

-- the frame is that of a filter that is open
abbrev pub is_inner : Frame → Bool
is_inner Start = false
is_inner (Whole filter) = false
is_inner frame = true

-- the octets stand behind the frames, of which the first is the innermost
abbrev pub CameTo : Frame → List Frame → List ℕ → Type 0
CameTo top [] text = (is_inner top ≡ false) × FrameText top text
CameTo top (frame ∷ below) text =
    (is_inner top ≡ true) × (may_open frame ≡ true) × (front : List ℕ) × (back : List ℕ) × (text ≡ front ++ back) × CameTo frame below front × FrameText top back

-- one text more
AreTexts-more : (members : List Filter) (inner : List ℕ) (filter : Filter) (text : List ℕ) → AreTexts members inner → IsText filter text → AreTexts (members ++ filter ∷ []) (inner ++ text)
AreTexts-more [] inner filter text NoTexts t = subst (λ (s : List ℕ). AreTexts (filter ∷ []) s) (append-nil text) (MoreTexts t NoTexts)
AreTexts-more (first ∷ rest) inner filter text (MoreTexts {front = front} {back = back} m ms) t =
    subst (λ (s : List ℕ). AreTexts (first ∷ (rest ++ filter ∷ [])) s) (sym (append_assoc front back text)) (MoreTexts m (AreTexts-more rest back filter text ms t))

-- a filter that ended, within what stands round it
pub FrameText-filter : (frame next : Frame) (front text : List ℕ) (filter : Filter) → with_filter filter frame ≡ Some next → FrameText frame front → IsText filter text → (is_inner next ≡ is_inner frame) × FrameText next (front ++ text)
FrameText-filter Start next front text filter e came t =
    subst (λ (f : Option Frame). IfSome f (λ g. (is_inner g ≡ false) × FrameText g (front ++ text))) e
    (refl, subst (λ (s : List ℕ). IsText filter (s ++ text)) (sym came) t)
FrameText-filter (Whole other) next front text filter e came t = absurd cc
FrameText-filter Opened next front text filter e came t = absurd cc
FrameText-filter (All members) next front text filter e (inner, is, all) t =
    subst (λ (f : Option Frame). IfSome f (λ g. (is_inner g ≡ true) × FrameText g (front ++ text))) e
    (refl, (inner ++ text, ap (λ (s : List ℕ). s ++ text) is, AreTexts-more members inner filter text all t))
FrameText-filter (Any members) next front text filter e (inner, is, all) t =
    subst (λ (f : Option Frame). IfSome f (λ g. (is_inner g ≡ true) × FrameText g (front ++ text))) e
    (refl, (inner ++ text, ap (λ (s : List ℕ). s ++ text) is, AreTexts-more members inner filter text all t))
FrameText-filter No next front text filter e came t =
    subst (λ (f : Option Frame). IfSome f (λ g. (is_inner g ≡ true) × FrameText g (front ++ text))) e
    (refl, (text, ap (λ (s : List ℕ). s ++ text) came, t))
FrameText-filter (Negated other) next front text filter e came t = absurd cc
FrameText-filter (Item raw mode) next front text filter e came t = absurd cc

-- the octets and a closing parenthesis are the text of the filter, if there is one
abbrev Ends : List ℕ → Option Filter → Type 0
Ends text found = IfSome found (λ filter. IsText filter (text ++ 41 ∷ []))

Item-ends : (raw : List ℕ) (mode : Mode) (text : List ℕ) → text ≡ 40 ∷ raw → LeadsTo raw mode → (b : Bool) → may_end mode ≡ b → Ends text (if b then Some (item_of raw) else None)
Item-ends raw mode text is leads true e =
    subst (λ (s : List ℕ). IsText (item_of raw) (s ++ 41 ∷ [])) (sym is) (ItemText raw (subst IsItemText (append-nil raw) (leads [] (ends-reads mode e))))
Item-ends raw mode text is leads false e = tt

frame_ends : (frame : Frame) (text : List ℕ) → FrameText frame text → Ends text (closed frame)
frame_ends Start text came = tt
frame_ends (Whole filter) text came = tt
frame_ends Opened text came = tt
frame_ends (All members) text (inner, is, all) = subst (λ (s : List ℕ). IsText (And (filters_of members)) (s ++ 41 ∷ [])) (sym is) (AndText all)
frame_ends (Any members) text (inner, is, all) = subst (λ (s : List ℕ). IsText (Or (filters_of members)) (s ++ 41 ∷ [])) (sym is) (OrText all)
frame_ends No text came = tt
frame_ends (Negated member) text (inner, is, t) = subst (λ (s : List ℕ). IsText (Not member) (s ++ 41 ∷ [])) (sym is) (NotText t)
frame_ends (Item raw mode) text (is, leads) = Item-ends raw mode text is leads (may_end mode) refl

pub FrameText-closed : (frame : Frame) (text : List ℕ) (filter : Filter) → closed frame ≡ Some filter → FrameText frame text → IsText filter (text ++ 41 ∷ [])
FrameText-closed frame text filter e came = subst (Ends text) e (frame_ends frame text came)

-- the same of the frames below
pub CameTo-filter : (frame next : Frame) (below : List Frame) (front text : List ℕ) (filter : Filter) → with_filter filter frame ≡ Some next → CameTo frame below front → IsText filter text → CameTo next below (front ++ text)
CameTo-filter frame next [] front text filter e (outer, came) t =
    let more = FrameText-filter frame next front text filter e came t in (more.0 ∙ outer, more.1)
CameTo-filter frame next (around ∷ below) front text filter e (inner, opens, early, late, is, rest, came) t =
    let more = FrameText-filter frame next late text filter e came t in
    (more.0 ∙ inner, opens, early, late ++ text, ap (λ (s : List ℕ). s ++ text) is ∙ append_assoc early late text, rest, more.1)

-- ---- octets that are no parentheses

-- the octets stand behind the frame, if there is one
abbrev Follows : List ℕ → Option Frame → Type 0
Follows text found = IfSome found (λ frame. (is_inner frame ≡ true) × FrameText frame text)

Item-follows : (raw : List ℕ) (mode : Mode) (x : ℕ) (text : List ℕ) → text ≡ 40 ∷ raw → LeadsTo raw mode → (next : Option Mode) → step_of mode (class_of x) ≡ next
    → Follows (text ++ x ∷ []) (option_map (λ n. Item (raw ++ x ∷ []) n) next)
Item-follows raw mode x text is leads None e = tt
Item-follows raw mode x text is leads (Some next) e =
    (refl, (ap (λ (s : List ℕ). s ++ x ∷ []) is, λ more m. subst IsItemText (sym (append_assoc raw (x ∷ []) more)) (leads (x ∷ more) (reads-cons mode next x more e m))))

-- nothing of an item leads to the first state
Start-leads : LeadsTo [] modes.Start
unfolding IsItemText
Start-leads more m = m

begun-follows : (class : Class) (x : ℕ) → class_of x ≡ class → Follows (40 ∷ x ∷ []) (begun class x)
begun-follows Ampersand x e = (refl, ([], ap (λ (y : ℕ). 40 ∷ y ∷ []) (octet_of Ampersand x e), NoTexts))
begun-follows Vertbar x e = (refl, ([], ap (λ (y : ℕ). 40 ∷ y ∷ []) (octet_of Vertbar x e), NoTexts))
begun-follows Exclamation x e = (refl, ap (λ (y : ℕ). 40 ∷ y ∷ []) (octet_of Exclamation x e))
begun-follows class x e = Item-follows [] modes.Start x (40 ∷ []) refl Start-leads (begin_of class) (ap begin_of e)

frame_follows : (class : Class) (x : ℕ) (frame : Frame) (text : List ℕ) → class_of x ≡ class → FrameText frame text → Follows (text ++ x ∷ []) (with_octet class x frame)
frame_follows class x Start text e came = tt
frame_follows class x (Whole filter) text e came = tt
frame_follows class x Opened text e came = subst (λ (s : List ℕ). Follows (s ++ x ∷ []) (begun class x)) (sym came) (begun-follows class x e)
frame_follows class x (All members) text e came = tt
frame_follows class x (Any members) text e came = tt
frame_follows class x No text e came = tt
frame_follows class x (Negated member) text e came = tt
frame_follows class x (Item raw mode) text e (is, leads) = Item-follows raw mode x text is leads (step_of mode class) (ap (step_of mode) e)

FrameText-octet : (class : Class) (x : ℕ) (frame next : Frame) (text : List ℕ) → class_of x ≡ class → with_octet class x frame ≡ Some next → FrameText frame text → (is_inner next ≡ true) × FrameText next (text ++ x ∷ [])
FrameText-octet class x frame next text c e came = subst (Follows (text ++ x ∷ [])) e (frame_follows class x frame text c came)

-- an octet follows no frame that isn't open
outer-none : (class : Class) (x : ℕ) (frame : Frame) → is_inner frame ≡ false → with_octet class x frame ≡ None
outer-none class x Start e = refl
outer-none class x (Whole filter) e = refl
outer-none class x Opened e = absurd cc
outer-none class x (All members) e = absurd cc
outer-none class x (Any members) e = absurd cc
outer-none class x No e = absurd cc
outer-none class x (Negated member) e = absurd cc
outer-none class x (Item raw mode) e = absurd cc

CameTo-octet : (class : Class) (x : ℕ) (frame next : Frame) (below : List Frame) (text : List ℕ) → class_of x ≡ class → with_octet class x frame ≡ Some next → CameTo frame below text → CameTo next below (text ++ x ∷ [])
CameTo-octet class x frame next [] text c e (outer, came) = let no = outer-none class x frame outer in absurd cc
CameTo-octet class x frame next (around ∷ below) text c e (inner, opens, front, back, is, rest, came) =
    let more = FrameText-octet class x frame next back c e came in
    (more.0, opens, front, back ++ x ∷ [], ap (λ (s : List ℕ). s ++ x ∷ []) is ∙ append_assoc front back (x ∷ []), rest, more.1)

-- ---- each octet

-- what stands behind a stack
abbrev pub Behind : List ℕ → Stack → Type 0
Behind text stack = CameTo stack.top stack.below text

open-behind : (x : ℕ) (stack next : Stack) (text : List ℕ) → x ≡ 40 → step_by Open x stack ≡ Some next → Behind text stack → Behind (text ++ x ∷ []) next
open-behind x stack next text is e came =
    elim (may_open stack.top) as (λ b. may_open stack.top ≡ b → (if b then Some (record { top = Opened; below = stack.top ∷ stack.below }) else None) ≡ Some next → Behind (text ++ x ∷ []) next) [
      | true ↦ λ opens here. subst (λ (s : Option Stack). IfSome s (λ n. Behind (text ++ x ∷ []) n)) here
          (refl, opens, text, x ∷ [], refl, came, ap (λ (y : ℕ). y ∷ []) is)
      | false ↦ λ opens here. absurd cc
    ] refl e

-- the frames with another top
on_top-behind : (below : List Frame) (text : List ℕ) (found : Option Frame) (next : Stack) → ((top : Frame) → found ≡ Some top → CameTo top below text) → on_top below found ≡ Some next → Behind text next
on_top-behind below text None next came e = absurd cc
on_top-behind below text (Some top) next came e = subst (λ (s : Option Stack). IfSome s (λ n. Behind text n)) e (came top refl)

close_in-behind : (filter : Filter) (below : List Frame) (top : Frame) (next : Stack) (text : List ℕ) → closed top ≡ Some filter → CameTo top below text → close_in filter below ≡ Some next → Behind (text ++ 41 ∷ []) next
close_in-behind filter [] top next text ends came e = absurd cc
close_in-behind filter (frame ∷ below) top next text ends (inner, opens, front, back, is, rest, came) e =
    on_top-behind below (text ++ 41 ∷ []) (with_filter filter frame) next
    (λ after found. subst (λ (s : List ℕ). CameTo after below s) (sym (ap (λ (s : List ℕ). s ++ 41 ∷ []) is ∙ append_assoc front back (41 ∷ [])))
    (CameTo-filter frame after below front (back ++ 41 ∷ []) filter found rest (FrameText-closed top back filter ends came))) e

close-behind : (x : ℕ) (stack next : Stack) (text : List ℕ) → x ≡ 41 → step_by Close x stack ≡ Some next → Behind text stack → Behind (text ++ x ∷ []) next
close-behind x stack next text is e came =
    subst (λ (y : ℕ). Behind (text ++ y ∷ []) next) (sym is)
    (elim (closed stack.top) as (λ o. closed stack.top ≡ o → option_and_then (λ filter. close_in filter stack.below) o ≡ Some next → Behind (text ++ 41 ∷ []) next) [
      | None ↦ λ ends here. absurd cc
      | Some filter ↦ λ ends here. close_in-behind filter stack.below stack.top next text ends came here
    ] refl e)

octet-behind : (class : Class) (x : ℕ) (stack next : Stack) (text : List ℕ) → class_of x ≡ class → on_top stack.below (with_octet class x stack.top) ≡ Some next → Behind text stack → Behind (text ++ x ∷ []) next
octet-behind class x stack next text c e came =
    on_top-behind stack.below (text ++ x ∷ []) (with_octet class x stack.top) next (λ top found. CameTo-octet class x stack.top top stack.below text c found came) e

step_by-behind : (class : Class) (x : ℕ) (stack next : Stack) (text : List ℕ) → class_of x ≡ class → step_by class x stack ≡ Some next → Behind text stack → Behind (text ++ x ∷ []) next
step_by-behind Open x stack next text c e came = open-behind x stack next text (octet_of Open x c) e came
step_by-behind Close x stack next text c e came = close-behind x stack next text (octet_of Close x c) e came
step_by-behind class x stack next text c e came = octet-behind class x stack next text c e came

-- an octet keeps what stands behind the frames
pub step-behind : (x : ℕ) (stack next : Stack) (text : List ℕ) → step x stack ≡ Some next → Behind text stack → Behind (text ++ x ∷ []) next
unfolding step
step-behind x stack next text e came = step_by-behind (class_of x) x stack next text refl e came
