-- The tokens of what has come are the tokens that came: a value of tokens has these tokens.
use Rattle.std.proofs.Common.{◌≡◌, List, [], ◌∷◌, ◌++◌, length, refl, sym, ap, subst, ◌∙◌, append_assoc}
use Rattle.std.proofs.lemmas.List.{append-nil}
use Rattle.std.specs.Prelude.{Option, option_and_then, nat_lt, if◌then◌else◌, Bool, true, false}
use Rattle.std.specs.Prelude as std
use Rattle.gser_tree.specs.declared.marks.Mark.TheVariants.{Open, Close, Comma, Colon}
use Rattle.gser_tree.specs.declared.part.Part.{Part}
use Rattle.gser_tree.specs.declared.token.Token.{Token}
use Rattle.gser_tree.specs.declared.token.Token.TheVariants as token
use Rattle.gser_tree.specs.looking.Shapes.{Shape, Shapes, Quoted, Braces, None, Some, tokens_of, tokens_behind}
use Rattle.gser_tree.specs.Growing.{Frame, Stack, Fresh, Wanting, Holding, Choosing, with_word, with_value, with_comma, with_colon, all_of, with_braces, on_top, grow, grow_all, fresh, value_at, value_in, value_of}

-- the tokens of values behind another, before more tokens
abbrev behind : Shapes → List Token → List Token
behind None tail = tail
behind (Some shape shapes) tail = token.Sign Comma ∷ (tokens_of shape ++ behind shapes tail)

-- the tokens of what has come in some braces
abbrev written : Frame → List Token → List Token
written Fresh tail = tail
written (Wanting shapes) tail = behind shapes tail
written (Holding shape shapes) tail = tokens_of shape ++ behind shapes tail
written (Choosing shape shapes) tail = token.Sign Colon ∷ (tokens_of shape ++ behind shapes tail)

-- the tokens behind the innermost braces
abbrev around : List Frame → List Token
around [] = []
around (frame ∷ below) = token.Sign Close ∷ written frame (around below)

-- the tokens of all that has come
abbrev written_in : Stack → List Token
written_in stack = written stack.top (around stack.below)

-- the tokens in braces, before more
in_braces : (shapes : Shapes) (tail : List Token) → tokens_behind shapes ++ tail ≡ behind shapes (token.Sign Close ∷ tail)
in_braces None tail = refl
in_braces (Some shape shapes) tail =
    ap (λ rest. token.Sign Comma ∷ rest)
    (append_assoc (tokens_of shape) (tokens_behind shapes) tail ∙ ap (λ rest. tokens_of shape ++ rest) (in_braces shapes tail))

-- braces before more
whole_braces : (shapes : Shapes) (frame : Frame) (tail : List Token) → all_of frame ≡ std.Some shapes
    → tokens_of (Braces shapes) ++ tail ≡ token.Sign Open ∷ written frame (token.Sign Close ∷ tail)
whole_braces shapes Fresh tail h =
    let e : None ≡ shapes = cc in
    subst (λ (s : Shapes). tokens_of (Braces s) ++ tail ≡ token.Sign Open ∷ token.Sign Close ∷ tail) e refl
whole_braces shapes (Wanting others) tail h = cc
whole_braces shapes (Holding shape others) tail h =
    let e : Some shape others ≡ shapes = cc in
    subst (λ (s : Shapes). tokens_of (Braces s) ++ tail ≡ token.Sign Open ∷ (tokens_of shape ++ behind others (token.Sign Close ∷ tail))) e
    (ap (λ rest. token.Sign Open ∷ rest)
    (append_assoc (tokens_of shape) (tokens_behind others) tail ∙ ap (λ rest. tokens_of shape ++ rest) (in_braces others tail)))
whole_braces shapes (Choosing shape others) tail h = cc

-- a whole value where one may stand
valued : (value : Shape) (frame next : Frame) (tail : List Token) → with_value value frame ≡ std.Some next
    → written next tail ≡ tokens_of value ++ written frame tail
valued value Fresh next tail h =
    let e : Holding value None ≡ next = cc in subst (λ (n : Frame). written n tail ≡ tokens_of value ++ tail) e refl
valued value (Wanting shapes) next tail h =
    let e : Holding value shapes ≡ next = cc in subst (λ (n : Frame). written n tail ≡ tokens_of value ++ behind shapes tail) e refl
valued value (Holding shape shapes) next tail h = cc
valued value (Choosing shape shapes) next tail h = cc

-- a word, a comma and a colon before what has come
worded : (part : Part) (frame : Frame) (tail : List Token) → written (with_word part frame) tail ≡ token.Word part ∷ written frame tail
worded part Fresh tail = refl
worded part (Wanting shapes) tail = refl
worded part (Holding shape shapes) tail = refl
worded part (Choosing shape shapes) tail = refl

comma : (frame next : Frame) (tail : List Token) → with_comma frame ≡ std.Some next → written next tail ≡ token.Sign Comma ∷ written frame tail
comma Fresh next tail h = cc
comma (Wanting shapes) next tail h = cc
comma (Holding shape shapes) next tail h =
    let e : Wanting (Some shape shapes) ≡ next = cc in
    subst (λ (n : Frame). written n tail ≡ token.Sign Comma ∷ (tokens_of shape ++ behind shapes tail)) e refl
comma (Choosing shape shapes) next tail h = cc

colon : (frame next : Frame) (tail : List Token) → with_colon frame ≡ std.Some next → written next tail ≡ token.Sign Colon ∷ written frame tail
colon Fresh next tail h = cc
colon (Wanting shapes) next tail h = cc
colon (Holding shape shapes) next tail h =
    let e : Choosing shape shapes ≡ next = cc in
    subst (λ (n : Frame). written n tail ≡ token.Sign Colon ∷ (tokens_of shape ++ behind shapes tail)) e refl
colon (Choosing shape shapes) next tail h = cc

-- another top, whose tokens are known
topped : (tokens : List Token) (stack next : Stack) (frame : Option Frame) → on_top stack frame ≡ std.Some next
    → ((top : Frame) → frame ≡ std.Some top → written top (around stack.below) ≡ tokens) → written_in next ≡ tokens
topped tokens stack next std.None h known = cc
topped tokens stack next (std.Some top) h known =
    let e : record { top = top; below = stack.below } ≡ next = cc in
    subst (λ (n : Stack). written_in n ≡ tokens) e (known top refl)

-- braces in others
braced : (shapes : Shapes) (top : Frame) (below : List Frame) (next : Stack) → all_of top ≡ std.Some shapes
    → with_braces shapes below ≡ std.Some next → written_in next ≡ token.Sign Open ∷ written top (around below)
braced shapes top [] next all h = cc
braced shapes top (frame ∷ below) next all h = inner (with_value (Braces shapes) frame) refl h
  where
    inner : (found : Option Frame) → with_value (Braces shapes) frame ≡ found
        → option_and_then (λ top. std.Some (record { top = top; below = below })) found ≡ std.Some next
        → written_in next ≡ token.Sign Open ∷ written top (token.Sign Close ∷ written frame (around below))
    inner std.None is h = cc
    inner (std.Some new) is h =
        let e : record { top = new; below = below } ≡ next = cc in
        subst (λ (n : Stack). written_in n ≡ token.Sign Open ∷ written top (token.Sign Close ∷ written frame (around below))) e
        (valued (Braces shapes) frame new (around below) is ∙ whole_braces shapes top (written frame (around below)) all)

-- a token more
grown : (one : Token) (stack next : Stack) → grow one stack ≡ std.Some next → written_in next ≡ one ∷ written_in stack
unfolding grow
grown (token.Word part) stack next h =
    topped (token.Word part ∷ written_in stack) stack next (std.Some (with_word part stack.top)) h
    (λ top is. let e : with_word part stack.top ≡ top = cc in
    subst (λ (t : Frame). written t (around stack.below) ≡ token.Word part ∷ written_in stack) e (worded part stack.top (around stack.below)))
grown (token.Quoted part) stack next h =
    topped (token.Quoted part ∷ written_in stack) stack next (with_value (Quoted part) stack.top) h
    (λ top is. valued (Quoted part) stack.top top (around stack.below) is)
grown (token.Sign Comma) stack next h =
    topped (token.Sign Comma ∷ written_in stack) stack next (with_comma stack.top) h (λ top is. comma stack.top top (around stack.below) is)
grown (token.Sign Colon) stack next h =
    topped (token.Sign Colon ∷ written_in stack) stack next (with_colon stack.top) h (λ top is. colon stack.top top (around stack.below) is)
grown (token.Sign Close) stack next h = closed (nat_lt (length stack.below) 100) h
  where
    closed : (b : Bool) → (if b then std.Some (record { top = Fresh; below = stack.top ∷ stack.below }) else std.None) ≡ std.Some next
        → written_in next ≡ token.Sign Close ∷ written_in stack
    closed false h = cc
    closed true h =
        let e : record { top = Fresh; below = stack.top ∷ stack.below } ≡ next = cc in
        subst (λ (n : Stack). written_in n ≡ token.Sign Close ∷ written_in stack) e refl
grown (token.Sign Open) stack next h = opened (all_of stack.top) refl h
  where
    opened : (found : Option Shapes) → all_of stack.top ≡ found
        → option_and_then (λ shapes. with_braces shapes stack.below) found ≡ std.Some next → written_in next ≡ token.Sign Open ∷ written_in stack
    opened std.None is h = cc
    opened (std.Some shapes) is h = braced shapes stack.top stack.below next is h

-- all tokens
all_grown : (tokens : List Token) (stack : Stack) → grow_all tokens fresh ≡ std.Some stack → written_in stack ≡ tokens
all_grown [] stack h =
    let e : fresh ≡ stack = cc in subst (λ (s : Stack). written_in s ≡ []) e refl
all_grown (one ∷ tokens) stack h = inner (grow_all tokens fresh) refl h (all_grown tokens)
  where
    inner : (found : Option Stack) → grow_all tokens fresh ≡ found → option_and_then (grow one) found ≡ std.Some stack
        → ((before : Stack) → grow_all tokens fresh ≡ std.Some before → written_in before ≡ tokens) → written_in stack ≡ one ∷ tokens
    inner std.None is h again = cc
    inner (std.Some before) is h again = grown one before stack h ∙ ap (λ rest. one ∷ rest) (again before is)

-- one value
valued_at : (frame : Frame) (below : List Frame) (shape : Shape) → value_at frame below ≡ std.Some shape
    → written frame (around below) ≡ tokens_of shape
valued_at Fresh below shape h = cc
valued_at (Wanting shapes) below shape h = cc
valued_at (Holding value None) [] shape h =
    let e : value ≡ shape = cc in append-nil (tokens_of value) ∙ ap tokens_of e
valued_at (Holding value None) (frame ∷ below) shape h = cc
valued_at (Holding value (Some other shapes)) below shape h = cc
valued_at (Choosing value shapes) below shape h = cc

-- tokens have no value but the one that they are the tokens of
pub value_of-tokens : (tokens : List Token) (shape : Shape) → value_of tokens ≡ std.Some shape → tokens ≡ tokens_of shape
unfolding value_of
value_of-tokens tokens shape h = inner (grow_all tokens fresh) refl h
  where
    inner : (found : Option Stack) → grow_all tokens fresh ≡ found → option_and_then value_in found ≡ std.Some shape
        → tokens ≡ tokens_of shape
    inner std.None is h = cc
    inner (std.Some stack) is h = sym (all_grown tokens stack is) ∙ valued_at stack.top stack.below shape h
