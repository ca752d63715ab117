-- What is told of what a store shows.
use Rattle.std.proofs.Common.{◌≡◌, ℕ, length, subst, Result, Ok, Err}
use Rattle.sector_disk.specs.Trail.{Leaves, Moment}
use Rattle.sector_disk.proofs.Touching.{read_is_an_image}
use Rattle.desktop_definitions.specs.Desktop.{Desktop}
use Rattle.store_layout.specs.Meaning.{Shows, Standing, Stands}
use Rattle.store_layout.specs.Finding.{StandingLaw}

abbrev pub ok_of : {A E : Type 0} → A → Result A E → A
ok_of x (Ok y) = y
ok_of x (Err e) = x

-- the standing that is shown has these numbers
pub record IsNumbered (s : Standing) (version number count : ℕ) : Type 0 where
  pub version_is : s.version ≡ version
  pub epoch : s.epoch ≡ number
  pub events : length s.events ≡ count

pub shown_as : {size version number count : ℕ} {desktop : Desktop} (m : Moment) (s : Standing) → StandingLaw
    → Leaves m (Shows size version number count desktop) → Stands size m.reads s → IsNumbered s version number count
shown_as {size = size} {version = version} {number = number} {count = count} m s law leaves at =
    let shows = leaves m.reads (read_is_an_image m) in
    subst (λ x. IsNumbered x version number count) (law size m.reads shows.standing s shows.stands at) (record {
      version_is = shows.version_is;
      epoch = shows.epoch;
      events = shows.events;
    })
