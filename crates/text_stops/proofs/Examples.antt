-- The definitions on known cases.
use Rattle.std.proofs.Common.{◌≡◌, refl}
use Rattle.std.specs.Prelude.{codes, Some, None}
use Rattle.text_stops.specs.Table.{table}
use Rattle.text_stops.specs.Spots.{step, spots_of}
use Rattle.text_stops.specs.Standing.{take, stop_in}
use Rattle.text_stops.specs.Stops.{item_stop, subtree_stop, word_at, stop_word}

-- a base without quotation marks
an_unquoted_base : subtree_stop (codes "{ base ou=a }") ≡ Some 7
unfolding subtree_stop stop_in table step spots_of take
an_unquoted_base = refl

its_word : word_at 111 (codes "u=a }") ≡ codes "ou=a"
its_word = refl

-- what stands in a string
a_string : word_at 34 (codes "ou=a b\" }") ≡ codes "ou=a b"
a_string = refl

-- a brace that is not closed
an_open_brace : subtree_stop (codes "{ minimum 1") ≡ Some 11
unfolding subtree_stop stop_in table step spots_of take
an_open_brace = refl

the_end : stop_word (codes "{ minimum 1") 11 ≡ codes "the end"
unfolding stop_word
the_end = refl

-- a component that has to be there before another
no_tag : item_stop (codes "{ precedence 1 }") ≡ Some 2
unfolding item_stop stop_in table step spots_of take
no_tag = refl

-- a whole specification
no_stop : subtree_stop (codes "{ minimum 1, specificationFilter not:and:{ } }") ≡ None
unfolding subtree_stop stop_in table step spots_of take
no_stop = refl
