-- What is planned where words are sought.
use Rattle.std.proofs.Common.{◌≡◌, ◌≢◌, arith, ℕ, Bool, true, false, refl, sym, ◌∙◌, ap, subst, Ok, Err, List}
use Rattle.std.specs.Prelude.{Result, Option, Some, None, IfOk, IfErr, ◌==◌, not, is_some, if◌then◌else◌, option_map}
use Rattle.std.proofs.lemmas.Bool.{cond-true, cond-false}
use Rattle.std.proofs.lemmas.Bool.Decides.{nat_tests}
use Rattle.sector_disk.specs.declared.disk.Disk.{Ghosts}
use Rattle.desktop_definitions.specs.Change.{bytes_of}
use Rattle.desktop_definitions.specs.Desktop.{Desktop}
use Rattle.desktop_definitions.specs.Viewers.{newest, selected}
use Rattle.desktop_definitions.specs.Words.{Text}
use Rattle.desk_journal.specs.Errors.{Error, NoMemory}
use Rattle.desk_journal.specs.Looking.{OnlyLooks}
use Rattle.desk_journal.specs.View.{StoreView}
use Rattle.desk_journal.specs.Views.{DeskInfo, Place as ViewerPlace, caret_text, desk_info}
use Rattle.status_line.specs.declared.saying.Saying.TheVariants.{NoCaret, NoScroll}
use Rattle.sought_words.specs.declared.seeking.Found.{Found}
use Rattle.sought_words.specs.declared.seeking.SearchStart.{SearchStart}
use Rattle.sought_words.specs.Sought.{search_from, sought_from}
use Rattle.press_tasks.specs.declared.finding.Finding.TheVariants as finding
use Rattle.press_plans.specs.declared.plan.Plan.{Plan as MadePlan}
use Rattle.press_tasks.specs.declared.task.Task.TheVariants as kind
use Rattle.press_plans.specs.Plans.{Plan, Makes, Asks, Refused, begin_plan, caret_place, found_plan, plan_of, search_plan, seen_plan}
use Rattle.press_plans.specs.Plans.{words_plan}
use Rattle.press_plans.proofs.Planning.{plans_seen, plans_starved}

-- ---- what is selected is searched, or it is asked for the words

no_viewer : (before b : Bool) (viewer : Option ℕ) (text : Option (Text ℕ)) → is_some viewer ≡ not b → b ≡ true
    → Refused NoCaret ≡ begin_plan before viewer text
no_viewer before b None text is none = refl
no_viewer before true (Some v) text is none = absurd cc
no_viewer before false (Some v) text is none = absurd cc

some_viewer : (before b : Bool) (viewer : Option ℕ) (text : Option (Text ℕ)) → is_some viewer ≡ not b → b ≡ false
    → search_plan before text ≡ begin_plan before viewer text
some_viewer before b (Some v) text is some = refl
some_viewer before true None text is some = absurd cc
some_viewer before false None text is some = absurd cc

module _ (over before : Bool) (info : DeskInfo) (d : Desktop) (info_is : info ≡ desk_info d) (b : Bool)
    (is : is_some info.caret_viewer ≡ not b) where
  abbrev over_selection : Option (Text ℕ)
  over_selection = if over then option_map (selected d) (newest d) else None

  begun : begin_plan before info.caret_viewer over_selection ≡ plan_of (kind.Find (finding.Search over before)) d
  unfolding plan_of
  begun = ap (λ (i : DeskInfo). begin_plan before i.caret_viewer over_selection) info_is

  pub begins_nowhere : b ≡ true → Refused NoCaret ≡ plan_of (kind.Find (finding.Search over before)) d
  begins_nowhere none = no_viewer before b info.caret_viewer over_selection is none ∙ begun

  pub begins_asking : b ≡ false → over ≡ false → Asks before ≡ plan_of (kind.Find (finding.Search over before)) d
  begins_asking some out =
      ap (λ (o : Bool). search_plan before (if o then option_map (selected d) (newest d) else None)) (sym out)
      ∙ some_viewer before b info.caret_viewer over_selection is some ∙ begun

  pub begins_over : (text : Option (Text ℕ)) → b ≡ false → over ≡ true → text ≡ option_map (selected d) (newest d)
      → search_plan before text ≡ plan_of (kind.Find (finding.Search over before)) d
  begins_over text some in_it text_is =
      ap (search_plan before) text_is
      ∙ ap (λ (o : Bool). search_plan before (if o then option_map (selected d) (newest d) else None)) (sym in_it)
      ∙ some_viewer before b info.caret_viewer over_selection is some ∙ begun

-- ---- words are sought in the text of the caret

is_none_of : (n : ℕ) → n ≡ 0 → (n == 0) ≡ true
is_none_of n is = ap (λ (m : ℕ). m == 0) is

are_some_of : (n : ℕ) → n ≢ 0 → (n == 0) ≡ false
are_some_of n some = grind (arith, nat_tests)

module _ (words : List ℕ) (before : Bool) (start : SearchStart) (info : DeskInfo) (place : Option ViewerPlace) (d : Desktop)
    (start_is : start ≡ search_from info.caret_position place before) (info_is : info ≡ desk_info d)
    (place_is : place ≡ caret_place d) where
  abbrev sought_there : Plan
  sought_there = plan_of (kind.Find (finding.Words words before)) d

  from_there : (text : Option (Text ℕ)) → text ≡ caret_text d → words_plan words start text ≡ sought_there
  unfolding plan_of
  from_there text text_is =
      let from : start ≡ search_from (desk_info d).caret_position (caret_place d) before = start_is
      ∙ (λ k. search_from (info_is k).caret_position (place_is k) before) in
      λ k. words_plan words (from k) (text_is k)

  pub seeks_nowhere : None ≡ caret_text d → Refused NoCaret ≡ sought_there
  seeks_nowhere none = from_there None none

  pub seeks_in_no_row : (text : Text ℕ) → Some text ≡ caret_text d → start.rows ≡ 0 → Refused NoScroll ≡ sought_there
  seeks_in_no_row text text_is none =
      sym (cond-true (start.rows == 0) (Refused NoScroll) (found_plan (sought_from (bytes_of text) words start))
      (is_none_of start.rows none))
      ∙ from_there (Some text) text_is

  pub seeks : (text : Text ℕ) (bytes these : List ℕ) (found : Option Found) → Some text ≡ caret_text d
      → start.rows ≢ 0 → bytes ≡ bytes_of text → these ≡ words → found ≡ sought_from bytes these start
      → found_plan found ≡ sought_there
  seeks text bytes these found text_is some bytes_are these_are found_is =
      ap found_plan found_is ∙ (λ k. found_plan (sought_from (bytes_are k) (these_are k) start))
      ∙ sym (cond-false (start.rows == 0) (Refused NoScroll) (found_plan (sought_from (bytes_of text) words start))
      (are_some_of start.rows some))
      ∙ from_there (Some text) text_is

-- ---- what is made of a look, where memory suffices

module _ {D : Type 0} (d : Ghosts D) where
  pub plans_or_starves : {A : Type 0} (value : A) {of : Desktop → Plan} (result : Result MadePlan Error) {old new : StoreView D}
      → OnlyLooks d (Ok value) old new
      → IfOk result (λ (plan : MadePlan). d.honest old.disk → seen_plan plan ≡ of old.desktop)
      → IfErr result (λ (error : Error). error ≡ NoMemory) → Makes d of result old new
  plans_or_starves value (Ok plan) looks seen error = plans_seen d value plan looks seen
  plans_or_starves value {of = of} (Err error) {old = old} {new = new} looks seen error_is =
      subst (λ (e : Error). Makes d of (Err e) old new) (sym error_is) (plans_starved d value looks)
