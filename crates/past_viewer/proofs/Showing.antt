-- Scenes of a past, one behind another, and what becomes of a store meanwhile. `d` is what is known of a disk.
use Rattle.std.proofs.Common.{◌≡◌, ◌∙◌, ℕ, Bool, true, false, List, [], length, Option, Some, None, inl, inr, refl, sym, ap, subst}
use Rattle.std.proofs.Common.{append-nil}
use Rattle.std.specs.Io.KnownBytes.{Appends}
use Rattle.screen_pictures.specs.declared.cell.Cell.{Cell}
use Rattle.screen_drawing.specs.declared.operation.Operation.TheVariants.{Ring}
use Rattle.screen_drawing.specs.Spelling.{operation_bytes}
use Rattle.sector_disk.specs.declared.disk.Disk.{Ghosts}
use Rattle.screen_drawing.specs.declared.scene.Scene.{Scene}
use Rattle.desktop_definitions.specs.Shown.{shown_screen}
use Rattle.desk_journal.specs.View.{StoreView}
use Rattle.past_pages.specs.Reading.{IsOnlyReadFrom, IsQuiet}
use Rattle.past_pages.proofs.StillReads.{read_twice, still_both, still_none}
use Rattle.desktop_definitions.specs.Desktop.{Desktop}
use Rattle.past_moments.specs.Moments.{IsLastOf}
use Rattle.past_moments.proofs.Carried.{last_on}
use Rattle.past_looks.specs.Looking.{IsLookerOf, IsSameLook, IsSeenAt, StaysOrTurns, looker_line}
use Rattle.past_looks.specs.Words.{moment_line}
use Rattle.past_looks.specs.declared.looker.Looker.{Looker}
use Rattle.past_looks.proofs.Carrying.{below_on, line_says, looker_same, seen_on}
use Rattle.terminal_clipboards.specs.Clips.{clip_of}
use Rattle.past_viewer.specs.Copies.{copied_words, exported_selection}
use Rattle.past_viewer.specs.Panes.{IsShownBy, asked_bytes, ring_bytes, size_question}
use Rattle.past_viewer.specs.Viewing.{DoesKey, IsViewed, LeavesViewed, LooksOn, ShowsMoment, ShowsNone, TakesScenes, TakesSome}
use Rattle.past_viewer.specs.Viewing.{TellsBelow, TurnsOrStays, none_kept}
use Rattle.past_viewer.specs.Viewing.IsViewed.{looked, turned}
use Rattle.past_viewer.specs.Viewing.LeavesViewed.{only_read, turns}
use Rattle.past_viewer.specs.Viewing.TakesScenes.{beside, moment, no_past, none}
use Rattle.past_viewer.specs.Viewing.TellsBelow.{copied, plain}
use Rattle.past_viewer.specs.declared.viewer.Doing.{Doing}
use Rattle.past_viewer.specs.declared.viewer.Doing.TheVariants.{Leaves, Stays}

module _ {D : Type 0} (d : Ghosts D) where
  -- ---- scenes behind others

  pub scenes_both : {store : StoreView D} {a b : Option ℕ} {held mid new : Option (List ℕ)}
      → TakesScenes d store a held mid → TakesScenes d store b mid new → (c : Option ℕ) × TakesScenes d store c held new
  scenes_both {a = a} first none = (a, first)
  scenes_both first (moment second k scene clip shows paints gave) =
      (Some k, moment (scenes_both first second).1 k scene clip shows paints gave)
  scenes_both first (no_past second scene shows paints) = (None, no_past (scenes_both first second).1 scene shows paints)
  scenes_both first (beside second which sent) =
      let both = scenes_both first second in (both.0, beside both.1 which sent)

  some_none : (k : ℕ) → Some k ≡ None → ⊥
  some_none k is = absurd cc is

  -- the last scene stays the last one
  pub scenes_last : {store : StoreView D} {a b : Option ℕ} {held mid new : Option (List ℕ)} (k : ℕ)
      → TakesScenes d store a held mid → TakesScenes d store b mid new → b ≡ Some k → TakesScenes d store (Some k) held new
  scenes_last k first none is = absurd (some_none k (sym is))
  scenes_last {store = store} {held = held} {new = new} k first (moment second j scene clip shows paints gave) is =
      subst (λ x. TakesScenes d store x held new) is (moment (scenes_both first second).1 j scene clip shows paints gave)
  scenes_last k first (no_past second scene shows paints) is = absurd (some_none k (sym is))
  scenes_last k first (beside second which sent) is = beside (scenes_last k first second is) which sent

  -- no moment is shown by either
  pub scenes_none : {store : StoreView D} {held mid new : Option (List ℕ)} → TakesScenes d store None held mid
      → TakesScenes d store None mid new → TakesScenes d store None held new
  scenes_none first second = then_none first second refl where
    then_none : {store : StoreView D} {b : Option ℕ} {held mid new : Option (List ℕ)} → TakesScenes d store None held mid
        → TakesScenes d store b mid new → b ≡ None → TakesScenes d store None held new
    then_none first none is = first
    then_none first (moment second k scene clip shows paints gave) is = absurd (some_none k is)
    then_none first (no_past second scene shows paints) is =
        no_past (scenes_both first second).1 scene shows paints
    then_none first (beside second which sent) is = beside (then_none first second is) which sent

  -- ---- what is sent beside them

  nothing_more : {store : StoreView D} {last : Option ℕ} {held : Option (List ℕ)} (mid new : Option (List ℕ))
      → TakesScenes d store last held mid → Appends mid new [] → TakesScenes d store last held new
  nothing_more None new first sent = beside {bytes = operation_bytes Ring} first (inl refl) tt
  nothing_more (Some x) None first sent = absurd sent
  nothing_more {store = store} {last = last} {held = held} (Some x) (Some y) first sent =
      subst (TakesScenes d store last held) (ap (λ l. Some l) (sym (sent ∙ append-nil x))) first

  ring_more : {store : StoreView D} {last : Option ℕ} {held : Option (List ℕ)} (rings : Bool) (mid new : Option (List ℕ))
      → TakesScenes d store last held mid → Appends mid new (ring_bytes rings) → TakesScenes d store last held new
  ring_more true mid new first sent = beside {bytes = operation_bytes Ring} first (inl refl) sent
  ring_more false mid new first sent = nothing_more mid new first sent

  ask_more : {store : StoreView D} {last : Option ℕ} {held : Option (List ℕ)} (asking : Bool) (mid new : Option (List ℕ))
      → TakesScenes d store last held mid → Appends mid new (asked_bytes asking) → TakesScenes d store last held new
  ask_more true mid new first sent = beside {bytes = size_question} first (inr refl) sent
  ask_more false mid new first sent = nothing_more mid new first sent

  -- a scene of a moment, and one that says that there is no past
  pub moment_shown : {store : StoreView D} (k : ℕ) (rings asking : Bool) (screen : List (List Cell)) (line clip : List ℕ)
      (desktop : Desktop) (held new : Option (List ℕ)) → IsSeenAt d k store desktop → screen ≡ shown_screen desktop
      → TellsBelow d k store desktop clip line → IsShownBy rings asking screen line clip held new
      → TakesScenes d store (Some k) held new
  moment_shown {store = store} k rings asking screen line clip desktop held new seen is of shown =
      let one : ShowsMoment d k store shown.painted.scene clip = record {
        desktop = desktop;
        seen = seen;
        screen = shown.painted.part ∙ is;
        below = subst (TellsBelow d k store desktop clip) (sym shown.painted.below) of;
      } in
      ask_more asking shown.rung new (ring_more rings shown.clipped shown.rung
      (moment {known = shown.painted.known} none k shown.painted.scene clip one shown.painted.paints shown.gave) shown.rang)
      shown.asked

  pub none_shown : {store : StoreView D} (rings asking : Bool) (screen : List (List Cell)) (line : List ℕ)
      (held new : Option (List ℕ)) → (d.honest store.disk → screen ≡ shown_screen store.desktop) → line ≡ none_kept
      → IsShownBy rings asking screen line [] held new → TakesScenes d store None held new
  none_shown {store = store} rings asking screen line held new is of shown =
      let one : ShowsNone d store shown.painted.scene = record {
        screen = λ honest. shown.painted.part ∙ is honest;
        below = shown.painted.below ∙ of;
      } in
      ask_more asking shown.rung new (ring_more rings shown.clipped shown.rung (nothing_more shown.behind shown.clipped
      (no_past {known = shown.painted.known} none shown.painted.scene one shown.painted.paints) shown.gave) shown.rang)
      shown.asked

  -- ---- what a person is shown

  -- what was copied of this desktop, which was looked at
  pub says_copied : {store : StoreView D} (k last : ℕ) (before desktop : Desktop) (clip words line : List ℕ)
      → IsLastOf d last store → desktop ≡ before → clip ≡ clip_of (exported_selection before)
      → words ≡ copied_words (length (exported_selection before)) → line ≡ moment_line k last words
      → TellsBelow d k store desktop clip line
  says_copied {store = store} k last before desktop clip words line is_last same is_clip is_words is_line =
      let here : exported_selection before ≡ exported_selection desktop = ap (λ x. exported_selection x) (sym same) in
      let given : clip ≡ clip_of (exported_selection desktop) = is_clip ∙ ap (λ (text : List ℕ). clip_of text) here in
      let told : line ≡ moment_line k last (copied_words (length (exported_selection desktop))) =
      is_line ∙ ap (moment_line k last) (is_words ∙ ap (λ (text : List ℕ). copied_words (length text)) here) in
      subst (λ (x : List ℕ × List ℕ). TellsBelow d k store desktop x.0 x.1) (λ i. (sym given i, sym told i))
      (copied last is_last)

  pub line_told : {store : StoreView D} (looker : Looker) → IsLookerOf d looker store
      → TellsBelow d looker.shown store looker.look.shown.desktop [] (looker_line looker)
  line_told looker is = plain (line_says d looker is)

  -- ---- a store that is only read

  module _ {old mid : StoreView D} (still : IsOnlyReadFrom d old mid) (usable : old.must_reopen ≡ false)
      (quiet : d.honest old.disk → IsQuiet d old) where
    tells_on : {k : ℕ} {desktop : Desktop} {clip line : List ℕ} → TellsBelow d k old desktop clip line
        → TellsBelow d k mid desktop clip line
    tells_on (plain said) = plain (below_on d still usable quiet said)
    tells_on (copied last is_last) = copied last (last_on d still usable quiet last is_last)

    shows_on : {k : ℕ} {scene : Scene} {clip : List ℕ} → ShowsMoment d k old scene clip → ShowsMoment d k mid scene clip
    shows_on shows = record {
      desktop = shows.desktop;
      seen = seen_on d still usable quiet shows.seen;
      screen = shows.screen;
      below = tells_on shows.below;
    }

    none_on : {scene : Scene} → ShowsNone d old scene → ShowsNone d mid scene
    none_on shows = record {
      screen = λ honest. let before = still.left.disk.device.already honest in
          shows.screen before ∙ ap shown_screen (sym (still.left.desktop before));
      below = shows.below;
    }

    pub scenes_on : {last : Option ℕ} {held new : Option (List ℕ)} → TakesScenes d old last held new
        → TakesScenes d mid last held new
    scenes_on none = none
    scenes_on (moment first k scene clip shows paints gave) =
        moment (scenes_on first) k scene clip (shows_on shows) paints gave
    scenes_on (no_past first scene shows paints) = no_past (scenes_on first) scene (none_on shows) paints
    scenes_on (beside first which sent) = beside (scenes_on first) which sent

  -- ---- the person looks on

  -- the store was read
  pub looks_read : {old new : StoreView D} {v v' : Looker} {held : Option (List ℕ)} → IsOnlyReadFrom d old new
      → (IsLookerOf d v old → IsLookerOf d v' new) → LooksOn d v v' old new held held
  looks_read read knows = record { read = read; knows = knows; scenes = λ _. (None, none) }

  -- it was not, and nothing was shown
  pub looks_same : {store : StoreView D} {v v' : Looker} {held : Option (List ℕ)} → store.must_reopen ≡ false → IsSameLook v v'
      → LooksOn d v v' store store held held
  looks_same {store = store} usable same = looks_read (still_none d store usable) (looker_same d same)

  -- a scene was, if one was due
  pub looks_shown : {store : StoreView D} {v v' : Looker} {held held' : Option (List ℕ)} → store.must_reopen ≡ false
      → (IsLookerOf d v store → IsLookerOf d v' store) → (IsLookerOf d v store → TakesSome d store held held')
      → LooksOn d v v' store store held held'
  looks_shown {store = store} usable knows shown =
      record { read = still_none d store usable; knows = knows; scenes = shown }

  -- ---- what becomes of a store

  pub only_read_first : {old new : StoreView D} {held held' : Option (List ℕ)} → IsOnlyReadFrom d old new
      → LeavesViewed d old new held held'
  only_read_first still = only_read still.left.disk

  -- nobody did anything
  pub leaves_none : {store : StoreView D} {held held' : Option (List ℕ)} → store.must_reopen ≡ false
      → LeavesViewed d store store held held'
  leaves_none {store = store} usable = only_read_first (still_none d store usable)

  -- which was shown first
  pub leaves_shown : {old mid new : StoreView D} {held held' : Option (List ℕ)} (k : ℕ) → IsOnlyReadFrom d old mid
      → TakesScenes d mid (Some k) held held' → StaysOrTurns d k mid new → LeavesViewed d old new held held'
  leaves_shown k still scenes (inl read) = only_read (read_twice d still.left.disk read)
  leaves_shown {mid = mid} k still scenes (inr leaves) = turns mid still k scenes leaves

  -- first another one of the same past was shown
  pub does_same : (doing : Doing) (old new : StoreView D) (v v' v'' : Looker) (held held' : Option (List ℕ)) → IsSameLook v v'
      → DoesKey d doing v' v'' old new held held' → DoesKey d doing v v'' old new held held'
  does_same Stays old new v v' v'' held held' same does = record {
    read = does.read;
    knows = λ is. does.knows (looker_same d same is);
    scenes = λ is. does.scenes (looker_same d same is);
  }
  does_same Leaves old new v v' v'' held held' same does = λ is. does (looker_same d same is)

  -- the moment was shown, and then the store turned to it, or the person looks on
  pub does_turned : (doing : Doing) (old mid new : StoreView D) (v v' v'' : Looker) (held held' : Option (List ℕ))
      → mid.must_reopen ≡ false → (d.honest mid.disk → IsQuiet d mid) → IsOnlyReadFrom d old mid
      → (IsLookerOf d v old → IsLookerOf d v' mid) → (IsLookerOf d v old → TakesScenes d mid (Some v'.shown) held held')
      → TurnsOrStays d doing v' v'' mid new → DoesKey d doing v v'' old new held held'
  does_turned Stays old mid new v v' v'' held held' usable quiet still knows shown does = record {
    read = still_both d still does.0;
    knows = λ is. does.1 (knows is);
    scenes = λ is. (Some v'.shown, scenes_on does.0 usable quiet (shown is));
  }
  does_turned Leaves old mid new v v' v'' held held' usable quiet still knows shown does = λ is.
      turned mid still v'.shown (shown is) (does (knows is))

  -- first it was only read
  pub leaves_after : {old mid new : StoreView D} {held held' : Option (List ℕ)} → IsOnlyReadFrom d old mid
      → LeavesViewed d mid new held held' → LeavesViewed d old new held held'
  leaves_after still (only_read read) = only_read (read_twice d still.left.disk read)
  leaves_after still (turns at read k scenes leaves) = turns at (still_both d still read) k scenes leaves

  pub viewed_after : {old mid new : StoreView D} {held held' : Option (List ℕ)} → IsOnlyReadFrom d old mid
      → IsViewed d mid new held held' → IsViewed d old new held held'
  viewed_after still (looked read last scenes) = looked (still_both d still read) last scenes
  viewed_after still (turned at read k scenes comes) = turned at (still_both d still read) k scenes comes

  -- scenes came first
  pub viewed_behind : {old mid new : StoreView D} {a : Option ℕ} {held some' held' : Option (List ℕ)}
      → mid.must_reopen ≡ false → (d.honest mid.disk → IsQuiet d mid) → IsOnlyReadFrom d old mid
      → TakesScenes d mid a held some' → IsViewed d mid new some' held' → IsViewed d old new held held'
  viewed_behind usable quiet still first (looked read last scenes) =
      let both = scenes_both (scenes_on read usable quiet first) scenes in
      looked (still_both d still read) both.0 both.1
  viewed_behind usable quiet still first (turned at read k scenes comes) =
      turned at (still_both d still read) k (scenes_last k (scenes_on read usable quiet first) scenes refl) comes

  leaves_behind : {old mid new : StoreView D} {a : Option ℕ} {held some' held' : Option (List ℕ)}
      → mid.must_reopen ≡ false → (d.honest mid.disk → IsQuiet d mid) → IsOnlyReadFrom d old mid
      → TakesScenes d mid a held some' → LeavesViewed d mid new some' held' → LeavesViewed d old new held held'
  leaves_behind usable quiet still first (only_read read) = only_read (read_twice d still.left.disk read)
  leaves_behind usable quiet still first (turns at read k scenes leaves) =
      turns at (still_both d still read) k (scenes_last k (scenes_on read usable quiet first) scenes refl) leaves

  -- the person looked on first
  pub looks_behind : {old mid new : StoreView D} {v v' v'' : Looker} {held some' held' : Option (List ℕ)}
      → mid.must_reopen ≡ false → (d.honest mid.disk → IsQuiet d mid) → LooksOn d v v' old mid held some'
      → LooksOn d v' v'' mid new some' held' → LooksOn d v v'' old new held held'
  looks_behind usable quiet first second = record {
    read = still_both d first.read second.read;
    knows = λ is. second.knows (first.knows is);
    scenes = λ is. scenes_both (scenes_on second.read usable quiet (first.scenes is).1) (second.scenes (first.knows is)).1;
  }

  pub does_behind : (doing : Doing) (old mid new : StoreView D) (v v' v'' : Looker) (held some' held' : Option (List ℕ))
      → mid.must_reopen ≡ false → (d.honest mid.disk → IsQuiet d mid) → LooksOn d v v' old mid held some'
      → DoesKey d doing v' v'' mid new some' held' → DoesKey d doing v v'' old new held held'
  does_behind Stays old mid new v v' v'' held some' held' usable quiet first second =
      looks_behind usable quiet first second
  does_behind Leaves old mid new v v' v'' held some' held' usable quiet first second = λ is.
      viewed_behind usable quiet first.read (first.scenes is).1 (second (first.knows is))

  pub leaves_looks : {old mid new : StoreView D} {v v' : Looker} {held some' held' : Option (List ℕ)}
      → mid.must_reopen ≡ false → (d.honest mid.disk → IsQuiet d mid) → LooksOn d v v' old mid held some'
      → (IsLookerOf d v' mid → LeavesViewed d mid new some' held') → IsLookerOf d v old → LeavesViewed d old new held held'
  leaves_looks usable quiet first behind is =
      leaves_behind usable quiet first.read (first.scenes is).1 (behind (first.knows is))
