-- A step that is known but for its cut.
use Rattle.std.proofs.Common.{◌≡◌, ℕ, List, [], ◌∷◌, map, Option, None, refl}
use Rattle.session_model.specs.Run.{Step, Opened, Bytes, Ended, Gone, HungUp}
use Rattle.session_model.specs.Journaled.{uncut}

-- one step, but for its cut
pub one_step : (x : Step) (more : List Step) → map uncut more ≡ x ∷ [] → (y : Step) × (more ≡ y ∷ []) × (uncut y ≡ x)
one_step x [] is = absurd (cc)
one_step x (y ∷ []) is = (y, refl, cc)
one_step x (y ∷ z ∷ more) is = absurd (cc)

pub opened_step : (d : ℕ) (y : Step) → uncut y ≡ Opened d → y ≡ Opened d
opened_step d (Opened e) is = is
opened_step d (Bytes e piece cut) is = absurd (cc)
opened_step d (Ended e) is = absurd (cc)
opened_step d (Gone e) is = absurd (cc)
opened_step d (HungUp e) is = absurd (cc)

pub bytes_step : (d : ℕ) (piece : List ℕ) (y : Step) → uncut y ≡ Bytes d piece None → (cut : Option ℕ) × (y ≡ Bytes d piece cut)
bytes_step d piece (Opened e) is = absurd (cc)
bytes_step d piece (Bytes e other cut) is = (cut, cc)
bytes_step d piece (Ended e) is = absurd (cc)
bytes_step d piece (Gone e) is = absurd (cc)
bytes_step d piece (HungUp e) is = absurd (cc)

pub ended_step : (d : ℕ) (y : Step) → uncut y ≡ Ended d → y ≡ Ended d
ended_step d (Opened e) is = absurd (cc)
ended_step d (Bytes e piece cut) is = absurd (cc)
ended_step d (Ended e) is = is
ended_step d (Gone e) is = absurd (cc)
ended_step d (HungUp e) is = absurd (cc)

pub gone_step : (d : ℕ) (y : Step) → uncut y ≡ Gone d → y ≡ Gone d
gone_step d (Opened e) is = absurd (cc)
gone_step d (Bytes e piece cut) is = absurd (cc)
gone_step d (Ended e) is = absurd (cc)
gone_step d (Gone e) is = is
gone_step d (HungUp e) is = absurd (cc)

pub hung_up_step : (d : ℕ) (y : Step) → uncut y ≡ HungUp d → y ≡ HungUp d
hung_up_step d (Opened e) is = absurd (cc)
hung_up_step d (Bytes e piece cut) is = absurd (cc)
hung_up_step d (Ended e) is = absurd (cc)
hung_up_step d (Gone e) is = absurd (cc)
hung_up_step d (HungUp e) is = is
