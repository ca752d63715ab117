-- What a call leaves of what is kept, put together of what it does to the page. `d` is what is known of the disk.
use Rattle.std.proofs.Common.{◌≡◌, ◌∙◌, ◌++◌, inl, inr, ◌⊎◌, sym, subst, ap, refl, true, false, ℕ, List, [], ◌∷◌}
use Rattle.std.proofs.Common.{Option, Some, None, Result, Ok, Err, IfOk, IfErr, IfSome, option_map}
use Rattle.std.specs.Prelude.{Bool, if◌then◌else◌}
use Rattle.std.proofs.lemmas.Bool.{true≢false}
use Rattle.sector_disk.specs.declared.disk.Disk.{Ghosts}
use Rattle.desktop_definitions.specs.Desktop.{Desktop}
use Rattle.desk_journal.specs.Errors.{Error}
use Rattle.store_documents.specs.HostText.{imported}
use Rattle.page_disks.specs.Recording.{Recording}
use Rattle.desk_page.specs.declared.kept.Kept.{Kept}
use Rattle.desk_page.specs.declared.scene.Scene.{Scene}
use Rattle.desk_page.specs.declared.looks.Desk.{Desk}
use Rattle.desk_page.specs.declared.looks.Desk.TheVariants.{Present}
use Rattle.desk_page.specs.Forgetting.{ForgetsOrNot}
use Rattle.desk_page.specs.Looks.{IsNotPressedAt, IsOfLook, LooksAtPast, PressesDesk, shown_desktop, page_of}
use Rattle.desk_page.specs.Calls.{AnswersAsk, AnswersBegin, AnswersBring, AnswersLook, AnswersPress, IsEnded, IsOnlyAsked}
use Rattle.desk_page.specs.Calls.{IsUncalled, TellsNoCall, begun, broken, brought, failed, lost, pressed, refused, shown}
use Rattle.desk_page.specs.Calls.{AnswersForget, anew, stays, stopped, turned_down, unkept, unlooked}
use Rattle.desk_page.specs.Looks.LooksAtPast.{has_none, shows}
use Rattle.desk_page.specs.Calls.{given as given_to, missing as missing_of}
use Rattle.desk_page.specs.Statuses.{no_room, not_there, past_stays, status_of_error, without_past}
use Rattle.desk_page.specs.Turns.{HostPage, Begins, BringsOrTurnsDown, Documents, IsHanded, IsNotBegun}
use Rattle.desk_page.specs.Turns.{IsStopped, IsWithheld, faulty, starved}

-- the scene is as it was but for its calls
pub tells_none : (old new : Kept) (scene : Scene) → new.scene ≡ scene → scene.calls.items ≡ []
    → scene.drawing ≡ old.scene.drawing → scene.line ≡ old.scene.line → scene.rings ≡ old.scene.rings
    → TellsNoCall old new
tells_none old new scene is calls drawing line rings = record {
  calls = ap (λ (s : Scene). s.calls.items) is ∙ calls;
  drawing = ap (λ (s : Scene). s.drawing) is ∙ drawing;
  line = ap (λ (s : Scene). s.line) is ∙ line;
  rings = ap (λ (s : Scene). s.rings) is ∙ rings;
}

-- bytes of which no name was made
pub unnamed : (name : List ℕ) (named : Bool) (made : Option (List ℕ)) → made ≡ (if named then Some name else None)
    → made ≡ None → named ≡ false
unnamed name true made is none = absurd cc
unnamed name false made is none = refl

-- and those of which one was
pub named_so : (name found : List ℕ) (named : Bool) (made : Option (List ℕ))
    → made ≡ (if named then Some name else None) → made ≡ Some found → found ≡ name
named_so name found true made is some = cc
named_so name found false made is some = absurd cc

module _ (d : Ghosts Recording) where
  pub is_begun : (past : Bool) (page after : HostPage) (scene : Scene) (old new : Kept) (status : ℕ)
      → Begins d past old.loaded page → IsHanded d page after scene → new.desk ≡ Some (Present after)
      → new.loaded ≡ None → new.scene ≡ scene → new.text ≡ old.text → status ≡ 0 → AnswersBegin d past old new status
  is_begun past page after scene old new status begins handed kept used is text done =
      subst (AnswersBegin d past old new) (sym done) (begun (record {
        page = page;
        begins = begins;
        after = after;
        handed_over = subst (IsHanded d page after) (sym is) handed;
        kept = kept;
        used = used;
        text = text;
      }))

  pub not_begun : (past : Bool) (old new : Kept) (error : Error) (status : ℕ) → IsNotBegun d old.loaded error
      → new.loaded ≡ None → IsUncalled old new → status ≡ status_of_error error → AnswersBegin d past old new status
  not_begun past old new error status why used same is =
      subst (AnswersBegin d past old new) (sym is) (refused error why used same)

  -- a page that can be used is withheld for want of memory alone
  pub not_handed : (loaded : Option Recording) (page : HostPage) (error : Error) → page.store.must_reopen ≡ false
      → IsWithheld page error → IsNotBegun d loaded error
  not_handed loaded page error usable why = elim why [
    | inl is ↦ subst (IsNotBegun d loaded) (sym is) starved
    | inr (inl is) ↦ subst (IsNotBegun d loaded) (sym is) faulty
    | inr (inr both) ↦ absurd (true≢false (sym both.1 ∙ usable))
  ]

  pub is_pressed : (bytes : List ℕ) (before after : Desk) (scene : Scene) (old new : Kept) (status : ℕ)
      → old.desk ≡ Some before → PressesDesk d bytes before after scene → new.desk ≡ Some after → new.scene ≡ scene
      → new.text ≡ old.text → status ≡ 0 → AnswersPress d bytes old new status
  is_pressed bytes before after scene old new status was presses kept is text done =
      subst (AnswersPress d bytes old new) (sym done) (pressed before was (record {
        after = after;
        presses = subst (PressesDesk d bytes before after) (sym is) presses;
        kept = kept;
        text = text;
      }))

  pub not_pressed : (bytes : List ℕ) (before : Desk) (old new : Kept) (error : Error) (status : ℕ)
      → old.desk ≡ Some before → IsNotPressedAt d bytes before error → IsEnded old new
      → status ≡ status_of_error error → AnswersPress d bytes old new status
  not_pressed bytes before old new error status was why ended told =
      subst (AnswersPress d bytes old new) (sym told) (failed before error was why ended)

  -- the past is shown, or there is none
  pub is_looked : (before after : Desk) (scene : Option Scene) (old new : Kept) (status : ℕ) → old.desk ≡ Some before
      → LooksAtPast d (page_of before) after scene → new.desk ≡ Some after → new.text ≡ old.text
      → IfSome scene (λ s. (new.scene ≡ s) × (status ≡ 0))
      → (scene ≡ None → TellsNoCall old new × (status ≡ without_past)) → AnswersLook d old new status
  is_looked before after (Some scene) old new status was looks kept text handed left =
      subst (AnswersLook d old new) (sym handed.1) (shown before was (record {
        after = after;
        looks = subst (λ s. LooksAtPast d (page_of before) after (Some s)) (sym handed.0) looks;
        kept = kept;
        text = text;
      }))
  is_looked before after None old new status was looks kept text handed left =
      let both = left refl in
      subst (AnswersLook d old new) (sym both.1) (unkept before was (record {
        after = after;
        none = looks;
        kept = kept;
        text = text;
        untold = both.0;
      }))

  told_none : (page : HostPage) (after : Desk) (scene : Option Scene) → LooksAtPast d page after scene
      → IfSome scene (λ s. s.calls.items ≡ [])
  told_none page after scene (shows looking handed same past known) = past.shows.calls
  told_none page after scene (has_none other same) = tt

  calls_none : (scene : Option Scene) (old new : Kept) (status : ℕ) → IfSome scene (λ s. s.calls.items ≡ [])
      → old.scene.calls.items ≡ [] → IfSome scene (λ s. (new.scene ≡ s) × (status ≡ 0))
      → (scene ≡ None → (new.scene ≡ old.scene) × (status ≡ without_past)) → new.scene.calls.items ≡ []
  calls_none (Some scene) old new status none cleared handed left = ap (λ (s : Scene). s.calls.items) handed.0 ∙ none
  calls_none None old new status none cleared handed left = ap (λ (s : Scene). s.calls.items) (left refl).0 ∙ cleared

  pub look_tells_none : (page : HostPage) (after : Desk) (scene : Option Scene) (old new : Kept) (status : ℕ)
      → LooksAtPast d page after scene → old.scene.calls.items ≡ []
      → IfSome scene (λ s. (new.scene ≡ s) × (status ≡ 0))
      → (scene ≡ None → (new.scene ≡ old.scene) × (status ≡ without_past)) → new.scene.calls.items ≡ []
  look_tells_none page after scene old new status looks cleared handed left =
      calls_none scene old new status (told_none page after scene looks) cleared handed left

  pub not_looked : (before : Desk) (old new : Kept) (error : Error) (status : ℕ) → old.desk ≡ Some before
      → IsWithheld (page_of before) error → IsEnded old new → status ≡ status_of_error error
      → AnswersLook d old new status
  not_looked before old new error status was why ended told =
      subst (AnswersLook d old new) (sym told) (lost before error was why ended)

  -- the past is forgotten, or it stays
  pub is_forgotten : (before : Desk) (after : HostPage) (scene : Option Scene) (old new : Kept) (status : ℕ)
      → old.desk ≡ Some before → ForgetsOrNot d (page_of before) after scene → new.desk ≡ Some (Present after)
      → new.text ≡ old.text → IfSome scene (λ s. (new.scene ≡ s) × (status ≡ 0))
      → (scene ≡ None → TellsNoCall old new × (status ≡ past_stays)) → AnswersForget d old new status
  is_forgotten before after (Some scene) old new status was forgets kept text handed left =
      subst (AnswersForget d old new) (sym handed.1) (anew before was (record {
        after = after;
        forgets = subst (λ s. ForgetsOrNot d (page_of before) after (Some s)) (sym handed.0) forgets;
        kept = kept;
        text = text;
      }))
  is_forgotten before after None old new status was keeps kept text handed left =
      let both = left refl in
      subst (AnswersForget d old new) (sym both.1) (stays before was (record {
        after = after;
        keeps = keeps;
        kept = kept;
        text = text;
        untold = both.0;
      }))

  pub not_forgotten : (before : Desk) (old new : Kept) (error : Error) (status : ℕ) → old.desk ≡ Some before
      → IsStopped (page_of before) error → IsEnded old new → status ≡ status_of_error error
      → AnswersForget d old new status
  not_forgotten before old new error status was why ended told =
      subst (AnswersForget d old new) (sym told) (stopped before error was why ended)

  -- documents, by whether they are brought or turned down
  pub are_answered : (name file : List ℕ) (documents : Documents) (scene : Option Scene) (before : Desk)
      (after : HostPage) (old new : Kept) (status : ℕ)
      → ((document : List ℕ) × (imported file ≡ Ok document) × (documents ≡ old.coming.items ++ (name, document) ∷ []))
      → old.desk ≡ Some before → BringsOrTurnsDown d documents (page_of before) after scene
      → new.desk ≡ Some (Present after) → new.text ≡ old.text
      → IfSome scene (λ s. (new.scene ≡ s) × (status ≡ 0))
      → (scene ≡ None → TellsNoCall old new × (status ≡ no_room)) → AnswersBring d name file old new status
  are_answered name file documents (Some scene) before after old new status all was brings kept text handed left =
      subst (AnswersBring d name file old new) (sym handed.1) (brought before was (record {
        document = all.0;
        fits = all.1;
        after = after;
        brings = subst (λ s. BringsOrTurnsDown d (old.coming.items ++ (name, all.0) ∷ []) (page_of before) after (Some s))
            (sym handed.0)
            (subst (λ l. BringsOrTurnsDown d l (page_of before) after (Some scene)) all.2 brings);
        kept = kept;
        text = text;
      }))
  are_answered name file documents None before after old new status all was turns kept text handed left =
      let both = left refl in
      subst (AnswersBring d name file old new) (sym both.1) (turned_down before was (record {
        document = all.0;
        fits = all.1;
        after = after;
        turns_down = subst (λ l. BringsOrTurnsDown d l (page_of before) after None) all.2 turns;
        kept = kept;
        text = text;
        untold = both.0;
      }))

  pub not_brought : (name file : List ℕ) (before : Desk) (old new : Kept) (error : Error) (status : ℕ)
      → old.desk ≡ Some before → IsStopped (page_of before) error → IsEnded old new
      → status ≡ status_of_error error → AnswersBring d name file old new status
  not_brought name file before old new error status was why ended told =
      subst (AnswersBring d name file old new) (sym told) (broken before error was why ended)

  -- what was asked for, by what was found of it
  pub is_asked : {V : Type 0} (found : Result (Option V) Error) (text : V) (items : V → List ℕ)
      (told : Desktop → Option (List ℕ)) (old new : Kept) (status : ℕ) (look : IsOnlyAsked d old new)
      → items text ≡ new.text.items
      → IfOk found (λ text. option_map items text ≡ told (shown_desktop look.before))
      → IfErr found (IsOfLook look.before)
      → IfOk found (λ found. IfSome found (λ bytes. (text ≡ bytes) × (status ≡ 0)))
      → (found ≡ Ok None → (new.text ≡ old.text) × (status ≡ not_there))
      → IfErr found (λ error. (new.text ≡ old.text) × (status ≡ status_of_error error))
      → AnswersAsk d told old new status
  is_asked (Ok (Some bytes)) text items told old new status look same is why given missing told_so =
      subst (AnswersAsk d told old new) (sym given.1) (given_to look
      (sym is ∙ ap (λ (l : List ℕ). Some l) (ap items (sym given.0) ∙ same)))
  is_asked (Ok None) text items told old new status look same is why given missing told_so =
      let both = missing refl in
      subst (AnswersAsk d told old new) (sym both.1) (missing_of look (sym is) both.0)
  is_asked (Err error) text items told old new status look same is why given missing told_so =
      subst (AnswersAsk d told old new) (sym told_so.1) (unlooked look error why told_so.0)
