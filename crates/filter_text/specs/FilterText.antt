-- The string form of filters (RFC 4515 section 3, with empty lists as in RFC 4526, without extensible matches).
use Rattle.std.specs.Prelude.{ℕ, List, [], ◌∷◌, ◌++◌}
use Rattle.ldap_filter.specs.filter.Filters.{Filter, filters_of}
use Rattle.ldap_filter.specs.filter.Filters.Filter.{And, Or, Not}
use Rattle.filter_text.specs.ItemGrammar.{IsItemText}
use Rattle.filter_text.specs.Items.{item_of}

mutual
  -- the octets are a text of the filter:
  -- filter = LPAREN filtercomp RPAREN, filtercomp = item / AMPERSAND filterlist / VERTBAR filterlist / EXCLAMATION filter
  pub data IsText : Filter → List ℕ → Type 0 where
    ItemText : (raw : List ℕ) → IsItemText raw → IsText (item_of raw) (40 ∷ (raw ++ 41 ∷ []))
    AndText : {members : List Filter} {inner : List ℕ} → AreTexts members inner → IsText (And (filters_of members)) (40 ∷ 38 ∷ (inner ++ 41 ∷ []))
    OrText : {members : List Filter} {inner : List ℕ} → AreTexts members inner → IsText (Or (filters_of members)) (40 ∷ 124 ∷ (inner ++ 41 ∷ []))
    NotText : {member : Filter} {inner : List ℕ} → IsText member inner → IsText (Not member) (40 ∷ 33 ∷ (inner ++ 41 ∷ []))

  -- the octets are texts of the filters, one behind the other: filterlist = *filter
  pub data AreTexts : List Filter → List ℕ → Type 0 where
    NoTexts : AreTexts [] []
    MoreTexts : {first : Filter} {rest : List Filter} {front back : List ℕ} → IsText first front → AreTexts rest back → AreTexts (first ∷ rest) (front ++ back)

-- the octets are the text of some filter
abbrev pub IsFilterText : List ℕ → Type 0
IsFilterText text = (filter : Filter) × IsText filter text

-- the filter has a text
abbrev pub HasText : Filter → Type 0
HasText filter = (text : List ℕ) × IsText filter text
