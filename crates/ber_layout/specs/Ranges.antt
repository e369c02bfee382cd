-- Values whose numbers and tags are in their ranges, whatever their lengths: where the whole is short, they fit.
use Rattle.std.specs.Prelude.{ℕ, ◌≤◌, List}
use Rattle.std.specs.List.{AllByRecursion}
use Rattle.ber_elements.specs.write.Element.{IsTag}
use Rattle.ber_layout.specs.Layouts.{Layout, Value, MayFit}
use Rattle.ber_layout.specs.Layouts.Layout.{AnyOctets, Ignored, Number, Skipped, Flag, End, Further, FurtherBut, AnyElement, Then, Maybe, Marked, Each}

-- the value's numbers are in the ranges of the layout, and the tags of any elements are tags
abbrev pub Within : (l : Layout) → Value l → Type 0
Within AnyOctets value = Unit {0}
Within Ignored value = Unit {0}
Within (Number low high) value = (low ≤ value) × (value ≤ high)
Within (Skipped low high) value = Unit {0}
Within Flag value = Unit {0}
Within End value = Unit {0}
Within Further value = Unit {0}
Within (FurtherBut tag) value = Unit {0}
Within (AnyElement next) ((tag, content), rest) = IsTag tag × Within next rest
Within (Then tag inner next) (value, rest) = Within inner value × Within next rest
Within (Maybe tag inner next) (value, rest) = MayFit (Within inner) value × Within next rest
Within (Marked tag next) (value, rest) = Within next rest
Within (Each tag inner next) (values, rest) = AllByRecursion (Within inner) values × Within next rest
