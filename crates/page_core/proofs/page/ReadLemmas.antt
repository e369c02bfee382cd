-- What is read of a value is what the value says, and what it says is read.
use Rattle.std.proofs.Common.{◌≡◌, ℕ, List, Option, Some, None, refl, sym, ap, ◌∙◌}
use Rattle.std.specs.Option.{option_map}
use Rattle.ber_layout.specs.Layouts.{reads}
use Rattle.ber_layout.proofs.Theorems.{reads_sound, reads_complete}
use Rattle.page_core.specs.declared.page.Page.{Page}
use Rattle.page_core.specs.Values.{value_layout, value_parts, page_from, SaysPage}

-- what is read
pub says_read : (value : List ℕ) (page : Page) → reads value_layout value ≡ Some (value_parts page) → SaysPage page value
says_read value page e = reads_sound value_layout (value_parts page) value e

-- what a value says is read, and nothing else
pub only_read : (value : List ℕ) (page other : Page) → reads value_layout value ≡ Some (value_parts page) → SaysPage other value
    → Some page ≡ Some other
only_read value page other e says = ap (option_map page_from) (sym e ∙ reads_complete value_layout (value_parts other) value refl says)

-- where nothing is read the value says nothing
pub none_read : (value : List ℕ) (other : Page) → reads value_layout value ≡ None → SaysPage other value → None ≡ Some other
none_read value other e says = ap (option_map page_from) (sym e ∙ reads_complete value_layout (value_parts other) value refl says)
