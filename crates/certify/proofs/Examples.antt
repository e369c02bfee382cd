-- Lines of certificates and tables on known cases.
use Rattle.std.proofs.Common.{◌≡◌, false, [], ◌∷◌, None, Ok, Err, refl}
use Rattle.std.specs.Prelude.{codes}
use Rattle.std.specs.Fmt.{digits}
use Rattle.dir_tree.specs.schema_tables.Attributes.{attributes}
use Rattle.acdf_filters.specs.Asking.{Kind, Value}
use Rattle.acdf_filters.specs.gser_tree.Writing.{text_of, print_string}
use Rattle.line_text.specs.Escapes.{escaped}
use Rattle.certify.specs.declared.fault.CertFault.TheVariants.{False}
use Rattle.certify.specs.Lines.{whole, line_text}
use Rattle.certify.specs.Certificate.{who_line, item_word, tuple_text}
use Rattle.certify.specs.RightsTable.{value_words}
use Rattle.certify.specs.Comparing.{agrees, compared}

nobody : line_text (who_line None) ≡ codes "who anonymous\n"
nobody = refl

-- items as words
a_type : item_word (Kind 18) ≡ codes "type:userPassword"
unfolding attributes
a_type = refl

a_value : item_word (Value 13 (record { octets = codes "+1 555"; key = codes "+1555" })) ≡ codes "value:telephoneNumber=+1 555"
unfolding attributes
a_value = refl

-- how far a tuple comes
a_denial : tuple_text 6 false (codes "everyone") ≡ codes "tuple 6 deny \"everyone\""
unfolding escaped digits
a_denial = refl

-- values count from 0
first_value : value_words 9 0 ≡ codes "value ou 0"
unfolding attributes digits
first_value = refl

-- a tag of a quotation mark, a backslash and LF stays in its line
a_tag : escaped (text_of (print_string (codes "a\"b\\c\nd"))) ≡ codes "\"a\"\"b\\5cc\\0ad\""
unfolding escaped
a_tag = refl

-- the fault is the first line that differs, or the first that one list alone has
same_lines : compared 1 (codes "who anonymous" ∷ codes "refused" ∷ []) (who_line None ∷ whole (codes "refused") ∷ []) ≡ Ok tt
unfolding agrees
same_lines = refl

another_line : compared 1 (codes "who anonymous" ∷ codes "granted" ∷ []) (who_line None ∷ whole (codes "refused") ∷ []) ≡ Err (False 2)
unfolding agrees
another_line = refl

one_line_more : compared 1 (codes "who anonymous" ∷ codes "refused" ∷ []) (who_line None ∷ []) ≡ Err (False 2)
unfolding agrees
one_line_more = refl

one_line_less : compared 1 [] (who_line None ∷ []) ≡ Err (False 1)
one_line_less = refl
