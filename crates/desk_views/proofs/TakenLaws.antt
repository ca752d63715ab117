-- Viewers that an opening takes: they were shown, and are gone.
use Rattle.std.specs.Prelude.{◌≡◌, ℕ, suc, ◌<◌, if◌then◌else◌, Bool, true, false, List, [], Option, Some, None}
use Rattle.std.specs.Prelude.{is_some, Result, Ok, Err}
use Rattle.std.specs.Option.{unwrap_or, option_map}
use Rattle.std.proofs.Common.{refl, sym, ap, subst, ◌∙◌, inl, inr, arith}
use Rattle.std.proofs.lemmas.Bool.Decides.{eqb_tells}
use Rattle.piece_ring.specs.Text.{Text}
use Rattle.viewer_tracks.specs.declared.display.Track.TheVariants.{User, System}
use Rattle.viewer_tracks.specs.Display.{left_of}
use Rattle.viewer_tracks.specs.Columns.{Columns, IsColumns, IsOnTop, times_placed, times_meant, allocated}
use Rattle.viewer_tracks.specs.Columns.{after_open, replaced_at}
use Rattle.viewer_tracks.proofs.PlacedLemmas.{open_places, open_shows}
use Rattle.command_table.specs.declared.command.Command.TheVariants.{EditOpen, SystemOpen, SystemOpenLog, SystemRecall}
use Rattle.desktop_definitions.specs.declared.call.NameCommand.TheVariants.{OpenDocument, OpenFile}
use Rattle.desktop_definitions.specs.declared.viewer.ClosedViewer.{ClosedViewer}
use Rattle.desktop_definitions.specs.Limits.{no_file, no_viewer}
use Rattle.desktop_definitions.specs.Needs.{needs, given}
use Rattle.desktop_definitions.specs.Desktop.{Desktop, file_of}
use Rattle.desktop_definitions.specs.Viewers.{viewer_in, without_viewer, opened_at}
use Rattle.desktop_definitions.specs.Opening.{new_id, after_opening, opening_on}
use Rattle.desktop_definitions.specs.Effects.{opened_on_copy, document_opened, file_opened, log_opened, brought_back}
use Rattle.desktop_definitions.specs.Call.{name_of}
use Rattle.desktop_definitions.specs.Commands.{commanded, done_with_name}
use Rattle.desktop_definitions.specs.Sound.{IsShaped, times_there}
use Rattle.desktop_definitions.proofs.OpenLaws.{unused_none}
use Rattle.desktop_definitions.proofs.PlaceLaws.{on_top_placed}
use Rattle.desk_views.specs.Losses.{taken_by, replaced_in, closed_cell, TakenViewersGo}

-- ---- in the columns

itself : (v : ℕ) → times_meant v (Some v) ≡ 1
itself v = elim (eqb_tells v v) [
  | inl same ↦ ap (λ b. let n : ℕ = if b then 1 else 0 in n) same.0
  | inr other ↦ absurd (other.1 refl)
]

another : (v : ℕ) → times_meant v (Some (suc v)) ≡ 0
another v = elim (eqb_tells (suc v) v) [
  | inl same ↦ absurd (let is = same.1 in omega (arith, is))
  | inr other ↦ ap (λ b. let n : ℕ = if b then 1 else 0 in n) other.0
]

module _ (c : Columns) (are : IsColumns c) (x y v : ℕ) (is : replaced_at c x y ≡ Some v) where
  pub replaced_shown : IsOnTop v c
  replaced_shown =
      let law = open_shows c (suc v) x y v are in
      let one : times_meant v (replaced_at c x y) ≡ 1 = ap (times_meant v) is ∙ itself v in
      let none = another v in
      omega (arith, law, one, none)

  -- what opens stood nowhere
  pub replaced_gone : (u : ℕ) → times_placed u c ≡ 0 → times_placed v c ≡ 1 → times_placed v (after_open c u x y) ≡ 0
  replaced_gone u fresh once =
      let law = open_places c u x y v are in
      let one : times_meant v (replaced_at c x y) ≡ 1 = ap (times_meant v) is ∙ itself v in
      elim (eqb_tells u v) [
        | inl same ↦ absurd (
            let stood : times_placed v c ≡ 0 = subst (λ w. times_placed w c ≡ 0) same.1 fresh in omega (arith, stood, once))
        | inr other ↦
            let none : times_meant v (Some u) ≡ 0 = ap (λ b. let n : ℕ = if b then 1 else 0 in n) other.0 in
            omega (arith, law, one, none, once)
      ]

-- ---- of a desktop in shape

-- where each viewer stands in one place at most
at_most_one : (b : Bool) (n : ℕ) → n ≡ (if b then 1 else 0) → n < 2
at_most_one true n is = omega (arith, is)
at_most_one false n is = omega (arith, is)

module _ (d : Desktop) (shaped : IsShaped d) where
  once : (v : ℕ) → times_there d.columns d.closed v < 2
  once v = at_most_one (is_some (viewer_in d.viewers v)) _ (shaped.places.once v)

  fresh : times_placed (new_id d) d.columns ≡ 0
  fresh =
      let none : times_there d.columns d.closed (new_id d) ≡ 0 = shaped.places.once (new_id d)
      ∙ (λ k. if is_some (unused_none d.viewers k) then 1 else 0) in
      omega (arith, none)

  closed_fresh : (k : ClosedViewer) → d.closed ≡ Some k → times_placed k.viewer d.columns ≡ 0
  closed_fresh k is =
      let all = once k.viewer in
      let one : times_meant k.viewer (option_map (λ k. k.viewer) d.closed) ≡ 1 =
      ap (λ (o : Option ClosedViewer). times_meant k.viewer (option_map (λ k. k.viewer) o)) is ∙ itself k.viewer in
      omega (arith, all, one)

  module _ (x y v : ℕ) (is : replaced_at d.columns x y ≡ Some v) where
    shown : IsOnTop v d.columns
    shown = replaced_shown d.columns shaped.places.columns_hold x y v is

    -- the columns after the opening, and what is closed then: what was closed before, or nothing
    gone : (u : ℕ) → times_placed u d.columns ≡ 0 → times_placed v (after_open d.columns u x y) ≡ 0
    gone u is_fresh =
        let all = once v in
        let stood = on_top_placed d.columns v shown in
        replaced_gone d.columns shaped.places.columns_hold x y v is u is_fresh (omega (arith, all, stood))

    unclosed : times_meant v (option_map (λ k. k.viewer) d.closed) ≡ 0
    unclosed =
        let all = once v in
        let stood = on_top_placed d.columns v shown in
        omega (arith, all, stood)

    abbrev Goes : Desktop → Type 0
    Goes new = IsOnTop v d.columns × (times_there new.columns new.closed v ≡ 0)

    goes : (u : ℕ) (new : Desktop) → times_placed u d.columns ≡ 0 → new.columns ≡ after_open d.columns u x y
        → new.closed ≡ d.closed → Goes new
    goes u new is_fresh columns closed = (
      shown,
      (λ k. times_there (columns k) (closed k) v)
          ∙ (let none = gone u is_fresh in let left = unclosed in omega (arith, none, left)),
    )

    goes_with_all : (u : ℕ) (new : Desktop) → times_placed u d.columns ≡ 0 → new.columns ≡ after_open d.columns u x y
        → new.closed ≡ None → Goes new
    goes_with_all u new is_fresh columns closed = (
      shown,
      (λ k. times_there (columns k) (closed k) v) ∙ (let none = gone u is_fresh in omega (arith, none)),
    )

-- ---- of each command that opens a viewer

still_closed : (d : Desktop) (o : Option ℕ) → (without_viewer d o).closed ≡ d.closed
still_closed d None = refl
still_closed d (Some v) = refl

copy_columns : (d : Desktop) (name : List ℕ) (text : Text ℕ) (cell : ℕ × ℕ)
    → (opened_on_copy d name text cell).columns ≡ after_open d.columns (new_id d) cell.0 cell.1
unfolding after_opening opening_on opened_at
copy_columns d name text cell = refl

copy_closed : (d : Desktop) (name : List ℕ) (text : Text ℕ) (cell : ℕ × ℕ)
    → (opened_on_copy d name text cell).closed ≡ d.closed
unfolding after_opening opening_on opened_at
copy_closed d name text cell = still_closed _ (replaced_at d.columns cell.0 cell.1)

log_columns : (d : Desktop) → (log_opened d).columns
    ≡ after_open d.columns (new_id d) (allocated d.columns System d.marker).0 (allocated d.columns System d.marker).1
unfolding log_opened opening_on opened_at
log_columns d = refl

log_closed : (d : Desktop) → (log_opened d).closed ≡ d.closed
unfolding log_opened opening_on opened_at
log_closed d = still_closed _ (replaced_at d.columns (allocated d.columns System d.marker).0
    (allocated d.columns System d.marker).1)

back_columns : (d : Desktop) (k : ClosedViewer)
    → (brought_back d k).columns ≡ after_open d.columns k.viewer (left_of k.track) k.top
unfolding brought_back opened_at
back_columns d k = refl

back_closed : (d : Desktop) (k : ClosedViewer) → (brought_back d k).closed ≡ None
unfolding brought_back opened_at
back_closed d k = still_closed _ (replaced_at d.columns (left_of k.track) k.top)

abbrev Answer : Type 0
Answer = Result Desktop ℕ

abbrev done_as : Answer → Desktop → Desktop
done_as (Ok x) other = x
done_as (Err code) other = other

done_is : (x y : Desktop) (r : Answer) → r ≡ Ok y → done_as r x ≡ y
done_is x y r is = ap (λ (r : Answer). done_as r x) is

module _ (d new : Desktop) (v : ℕ) (shaped : IsShaped d) where
  abbrev Went : Desktop → Type 0
  Went after = IsOnTop v d.columns × (times_there after.columns after.closed v ≡ 0)

  copy_goes : (name : List ℕ) (text : Text ℕ) (cell : ℕ × ℕ) → replaced_at d.columns cell.0 cell.1 ≡ Some v
      → Went (opened_on_copy d name text cell)
  copy_goes name text cell is = goes d shaped cell.0 cell.1 v is (new_id d) (opened_on_copy d name text cell)
      (fresh d shaped) (copy_columns d name text cell) (copy_closed d name text cell)

  document_goes : (named : Result (List ℕ) ℕ) → given named (done_with_name d OpenDocument) ≡ Ok new
      → replaced_in d (Some (allocated d.columns User d.marker)) ≡ Some v → Went new
  unfolding done_with_name document_opened
  document_goes (Err code) is taken = absurd (cc is)
  document_goes (Ok name) is taken = subst Went (done_is new new _ is)
      (copy_goes name (unwrap_or (file_of d name) []) (allocated d.columns User d.marker) taken)

  found_goes : (name : List ℕ) (found : Option (Text ℕ))
      → needs found no_file (λ text. Ok (opened_on_copy d name text (allocated d.columns System d.marker))) ≡ Ok new
      → replaced_in d (Some (allocated d.columns System d.marker)) ≡ Some v → Went new
  found_goes name None is taken = absurd (cc is)
  found_goes name (Some text) is taken = subst Went (done_is new new _ is)
      (copy_goes name text (allocated d.columns System d.marker) taken)

  file_goes : (named : Result (List ℕ) ℕ) → given named (done_with_name d OpenFile) ≡ Ok new
      → replaced_in d (Some (allocated d.columns System d.marker)) ≡ Some v → Went new
  unfolding done_with_name file_opened
  file_goes (Err code) is taken = absurd (cc is)
  file_goes (Ok name) is taken = found_goes name (file_of d name) is taken

  log_goes : (r : Answer) → r ≡ Ok (log_opened d) → r ≡ Ok new
      → replaced_in d (Some (allocated d.columns System d.marker)) ≡ Some v → Went new
  log_goes r was is taken = subst Went (sym (done_is (log_opened d) (log_opened d) r was) ∙ done_is (log_opened d) new r is)
      (goes d shaped _ _ v taken (new_id d) (log_opened d) (fresh d shaped) (log_columns d) (log_closed d))

  back_goes : (closed : Option ClosedViewer) → d.closed ≡ closed → needs closed no_viewer (λ k. Ok (brought_back d k)) ≡ Ok new
      → replaced_in d (closed_cell closed) ≡ Some v → Went new
  back_goes None was is taken = absurd (cc is)
  back_goes (Some k) was is taken = subst Went (done_is new new _ is)
      (goes_with_all d shaped (left_of k.track) k.top v taken k.viewer (brought_back d k) (closed_fresh d shaped k was)
      (back_columns d k) (back_closed d k))

pub taken_go : TakenViewersGo
unfolding commanded taken_by
taken_go d new EditOpen call v shaped is taken = document_goes d new v shaped (name_of d call) is taken
taken_go d new SystemOpen call v shaped is taken = file_goes d new v shaped (name_of d call) is taken
taken_go d new SystemOpenLog call v shaped is taken = log_goes d new v shaped _ refl is taken
taken_go d new SystemRecall call v shaped is taken = back_goes d new v shaped d.closed refl is taken
taken_go d new command call v shaped is taken = absurd (cc taken)
