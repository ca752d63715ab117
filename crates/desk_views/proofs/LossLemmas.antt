-- What a command would lose, as it is read.
use Rattle.std.specs.Prelude.{◌≡◌, ℕ, Bool, true, false, if◌then◌else◌, List, [], Option, Some, None, IfSome}
use Rattle.std.proofs.Common.{refl, sym, ap, ◌∙◌}
use Rattle.viewer_tracks.specs.Columns.{IsOnTop, replaced_at}
use Rattle.command_table.specs.declared.command.Command.{Command}
use Rattle.command_table.specs.declared.command.Command.TheVariants.{SystemClose, EditStore}
use Rattle.desktop_definitions.specs.Desktop.{Desktop, KeptDesktop}
use Rattle.desktop_definitions.specs.Seen.{seen}
use Rattle.desktop_definitions.specs.Sound.{IsKeptWhole}
use Rattle.desk_views.specs.declared.losses.Loss.{Loss}
use Rattle.desk_views.specs.declared.losses.Loss.TheVariants.{Closed, Rivalled}
use Rattle.desk_views.specs.Unstored.{is_unstored}
use Rattle.desk_views.specs.Losses.{menu_start, lost_by_closing, lost_by_storing, is_rivalled, taken_by}
use Rattle.desk_views.specs.Losses.{lost_by_opening, lost_by}
use Rattle.desk_views.proofs.TakenLaws.{replaced_shown}

module _ (characters : List ℕ) (d : KeptDesktop) where
  cell_seen : (v : ℕ) → menu_start d v ≡ menu_start (seen characters d) v
  unfolding seen
  cell_seen v = refl

  -- ---- of a viewer that is meant

  module _ (make : ℕ × ℕ → Loss) (test : Bool) (v : ℕ) where
    abbrev told : Option Loss
    told = if test then Some (make (menu_start (seen characters d) v)) else None

    is_told : (cell : ℕ × ℕ) → test ≡ true → cell ≡ menu_start d v → Some (make cell) ≡ told
    is_told cell is cell_is = ap (λ (c : ℕ × ℕ). Some (make c)) (cell_is ∙ cell_seen v)
        ∙ ap (λ (b : Bool). let o : Option Loss = if b then Some (make (menu_start (seen characters d) v)) else None in o) (sym is)

    is_untold : test ≡ false → None ≡ told
    is_untold is =
        ap (λ (b : Bool). let o : Option Loss = if b then Some (make (menu_start (seen characters d) v)) else None in o) (sym is)

  module _ (meant : Option ℕ) where
    pub closing_none : meant ≡ None → None ≡ lost_by_closing (seen characters d) meant
    closing_none is = ap (lost_by_closing (seen characters d)) (sym is)

    pub closing_lost : (v : ℕ) (cell : ℕ × ℕ) → meant ≡ Some v → is_unstored (seen characters d) v ≡ true
        → cell ≡ menu_start d v → Some (Closed cell) ≡ lost_by_closing (seen characters d) meant
    closing_lost v cell is lost cell_is = is_told Closed (is_unstored (seen characters d) v) v cell lost cell_is
        ∙ ap (lost_by_closing (seen characters d)) (sym is)

    pub closing_kept : (v : ℕ) → meant ≡ Some v → is_unstored (seen characters d) v ≡ false
        → None ≡ lost_by_closing (seen characters d) meant
    closing_kept v is kept = is_untold Closed (is_unstored (seen characters d) v) v kept
        ∙ ap (lost_by_closing (seen characters d)) (sym is)

    pub storing_none : meant ≡ None → None ≡ lost_by_storing (seen characters d) meant
    storing_none is = ap (lost_by_storing (seen characters d)) (sym is)

    pub storing_lost : (v : ℕ) (cell : ℕ × ℕ) → meant ≡ Some v → is_rivalled (seen characters d) v ≡ true
        → cell ≡ menu_start d v → Some (Rivalled cell) ≡ lost_by_storing (seen characters d) meant
    storing_lost v cell is lost cell_is = is_told Rivalled (is_rivalled (seen characters d) v) v cell lost cell_is
        ∙ ap (lost_by_storing (seen characters d)) (sym is)

    pub storing_kept : (v : ℕ) → meant ≡ Some v → is_rivalled (seen characters d) v ≡ false
        → None ≡ lost_by_storing (seen characters d) meant
    storing_kept v is kept = is_untold Rivalled (is_rivalled (seen characters d) v) v kept
        ∙ ap (lost_by_storing (seen characters d)) (sym is)

  -- ---- where a viewer opens

  pub opening_seen : (command : Command) → lost_by_opening d command ≡ lost_by_opening (seen characters d) command
  unfolding taken_by seen
  opening_seen command = refl

-- the columns of a desktop in shape
taken_shown : (d : KeptDesktop) (x y v : ℕ) → IsKeptWhole d → replaced_at d.columns x y ≡ Some v → IsOnTop v d.columns
unfolding seen
taken_shown d x y v whole is = replaced_shown d.columns (whole.sound []).shaped.places.columns_hold x y v is

pub taken_on_top : (d : KeptDesktop) (x y : ℕ) (taken : Option ℕ) → IsKeptWhole d → taken ≡ replaced_at d.columns x y
    → IfSome taken (λ v. IsOnTop v d.columns)
taken_on_top d x y None whole is = tt
taken_on_top d x y (Some v) whole is = taken_shown d x y v whole (sym is)

-- ---- the table

pub by_closing : (d : Desktop) (command : Command) (meant : Option ℕ) → command ≡ SystemClose
    → lost_by_closing d meant ≡ lost_by d command meant
unfolding lost_by
by_closing d command meant is = ap (λ (c : Command). lost_by d c meant) (sym is)

pub by_storing : (d : Desktop) (command : Command) (meant : Option ℕ) → command ≡ EditStore
    → lost_by_storing d meant ≡ lost_by d command meant
unfolding lost_by
by_storing d command meant is = ap (λ (c : Command). lost_by d c meant) (sym is)

pub other_lost : (d : Desktop) (command : Command) (meant : Option ℕ) → ¬ (command ≡ SystemClose) → ¬ (command ≡ EditStore)
    → lost_by_opening d command ≡ lost_by d command meant
unfolding lost_by
other_lost d SystemClose meant no_close no_store = absurd (no_close refl)
other_lost d EditStore meant no_close no_store = absurd (no_store refl)
other_lost d command meant no_close no_store = refl
