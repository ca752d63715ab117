-- Texts that an event may change, and lines that are given up for it.
use Rattle.std.specs.Prelude.{◌&&◌, Bool, Some, None, MatchOption, if◌then◌else◌}
use Rattle.std.proofs.Common.{◌≡◌, ℕ, false, ◌==◌, List, Option, refl, sym, ap, ◌∙◌, arith}
use Rattle.std.proofs.lemmas.Bool.Decides.{nat_tests}
use Rattle.event_bytes.specs.declared.keys.Keys.{Keys}
use Rattle.event_bytes.specs.declared.keys.Keys.TheVariants.{Left, LeftMiddle, LeftRight, Middle, MiddleLeft}
use Rattle.event_bytes.specs.declared.keys.Keys.TheVariants.{MiddleRight, Right, RightLeft, RightMiddle}
use Rattle.desktop_definitions.specs.declared.region.Region.{Region}
use Rattle.desktop_definitions.specs.declared.region.Region.TheVariants.{Bar}
use Rattle.desktop_definitions.specs.declared.viewer.Viewer.{Viewer}
use Rattle.desktop_definitions.specs.declared.viewer.Caret.{Caret}
use Rattle.desktop_definitions.specs.declared.viewer.Selection.{Selection}
use Rattle.desktop_definitions.specs.Desktop.{KeptDesktop}
use Rattle.desktop_definitions.specs.Viewers.{newest}
use Rattle.desktop_definitions.specs.Gesture.{is_on_display, region_at}
use Rattle.desk_input.specs.declared.stale.Stale.{Stale}
use Rattle.desk_input.specs.declared.stale.Stale.TheVariants.{Nothing}
use Rattle.desk_input.specs.Stale.{stale_by_gesture}
use Rattle.event_loop.specs.Regions.{IsRegionBetween}
use Rattle.event_loop.proofs.GestureLemmas.{none_between, some_between}

pub bar_none : (viewers : List (ℕ × Viewer)) (caret : Option Caret) (latest : Option Selection) (v : ℕ) (keys : Keys)
    → stale_by_gesture viewers caret latest (Bar v) keys ≡ Nothing
unfolding stale_by_gesture
bar_none viewers caret latest v Left = refl
bar_none viewers caret latest v LeftMiddle = refl
bar_none viewers caret latest v LeftRight = refl
bar_none viewers caret latest v Middle = refl
bar_none viewers caret latest v MiddleLeft = refl
bar_none viewers caret latest v MiddleRight = refl
bar_none viewers caret latest v Right = refl
bar_none viewers caret latest v RightLeft = refl
bar_none viewers caret latest v RightMiddle = refl

-- what the region says of the keys, both cells say
pub stale_there : (d : KeptDesktop) (from to : ℕ × ℕ) (region : Option Region) (keys : Keys) (found : Stale)
    → IsRegionBetween d from to region
    → MatchOption region (found ≡ Nothing) (λ there. found ≡ stale_by_gesture d.viewers d.caret (newest d) there keys)
    → found ≡ (if is_on_display from.0 from.1 && is_on_display to.0 to.1
    then stale_by_gesture d.viewers d.caret (newest d) (region_at d from.0 from.1) keys else Nothing)
stale_there d from to None keys found at is =
    is ∙ sym (ap (λ (b : Bool). if b then stale_by_gesture d.viewers d.caret (newest d) (region_at d from.0 from.1) keys
    else Nothing) (none_between _ _ at.found))
stale_there d from to (Some there) keys found at is =
    let both = some_between _ _ _ at.found in
    is ∙ ap (λ (r : Region). stale_by_gesture d.viewers d.caret (newest d) r keys) both.1
    ∙ sym (ap (λ (b : Bool). if b then stale_by_gesture d.viewers d.caret (newest d) (region_at d from.0 from.1) keys
    else Nothing) both.0)

pub another : (n number : ℕ) → ¬ (n ≡ number) → (number == n) ≡ false
another n number other = grind (arith, nat_tests)
