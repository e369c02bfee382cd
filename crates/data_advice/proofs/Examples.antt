-- The definitions on known cases.
use Rattle.std.proofs.Common.{◌≡◌, [], true, false, refl}
use Rattle.std.specs.Prelude.{codes}
use Rattle.data_advice.specs.EntryNotes.{accepts_none}
use Rattle.data_advice.specs.Advice.{outside_note, no_point_note, points_note}

-- a scheme of another server, the one scheme that is known, and a password as it is
another_scheme : accepts_none (codes "{SSHA}c2VjcmV0") ≡ true
another_scheme = refl

the_scheme : accepts_none (codes "{SHA256}c2VjcmV0") ≡ false
the_scheme = refl

no_scheme : accepts_none (codes "secret") ≡ false
no_scheme = refl

-- a tree without a point, and one without an entry outside
no_point : points_note [] ≡ no_point_note
no_point = refl

all_inside : outside_note 0 ≡ []
all_inside = refl
