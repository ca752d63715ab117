use Rattle.std.proofs.Common.{rules, ap, refl}
use Rattle.event_bytes.specs.declared.keys.Keys.{Keys}
use Rattle.command_table.specs.Versions.{version_number}
use Rattle.desktop_definitions.specs.declared.region.Region.TheVariants.{Body}
use Rattle.desktop_definitions.specs.Seen.{seen}
use Rattle.desktop_definitions.specs.Gesture.{pointed, done_at, done_with}
use Rattle.desktop_definitions.specs.Unread.{gesture_needs_no_byte}
use Rattle.desk_core.specs.Kept.{kept_desktop}
use Rattle.desk_core.proofs.ArmLemmas.{rest_done}
use Rattle.desk_input.proofs.StillLemmas.{does_unread}
use Rattle.event_loop.proofs.GestureLemmas.{last_keys, reading, does_at}
use Rattle.event_loop.proofs.gestures.point_text.Goals as goal

pub returns-in-Right : goal.returns-in-Right
unfolding pointed done_with gesture_needs_no_byte
returns-in-Right g c = record { answered = search rules; unread = search rules; uses = c.draw.ensures.uses }

pub returns-in-MiddleLeft : goal.returns-in-MiddleLeft
unfolding pointed done_at
returns-in-MiddleLeft g c =
    does_unread g.S.CharSource g.met.S.CharSource.ground_self _ _ (kept_desktop c.args.desk.now) _ _ c.requires.at.over
    (λ H all over. rest_done over (ap (λ (keys : Keys). pointed (version_number c.args.version)
    (seen all (kept_desktop c.args.desk.now)) (Body c.args.id) keys c.args.gesture.from.0 c.args.gesture.from.1
    c.args.gesture.to.0 c.args.gesture.to.1) c.in-MiddleLeft.is))

pub returns-in-MiddleRight : goal.returns-in-MiddleRight
unfolding pointed done_at
returns-in-MiddleRight g c =
    does_unread g.S.CharSource g.met.S.CharSource.ground_self _ _ (kept_desktop c.args.desk.now) _ _ c.requires.at.over
    (λ H all over. rest_done over (ap (λ (keys : Keys). pointed (version_number c.args.version)
    (seen all (kept_desktop c.args.desk.now)) (Body c.args.id) keys c.args.gesture.from.0 c.args.gesture.from.1
    c.args.gesture.to.0 c.args.gesture.to.1) c.in-MiddleRight.is))

pub returns-in-Left : goal.returns-in-Left
unfolding done_at gesture_needs_no_byte
returns-in-Left g c =
    let told = c.in_ok-pos-in_default.ensures.told in
    let other = c.in_default in
    does_at g.S.CharSource g.met.S.CharSource.ground_through _ c.in-Left.is _ _ _ _ _ _ _ _ _ _ _ _
    told.reads told.cause told.exact other.not-Right other.not-RightLeft other.not-RightMiddle
    (reading g.S.CharSource refl c.set_caret.ensures)

pub returns-in-LeftMiddle : goal.returns-in-LeftMiddle
unfolding done_at gesture_needs_no_byte
returns-in-LeftMiddle g c =
    let told = c.in_ok-pos-in_default.ensures.told in
    let other = c.in_default in
    does_at g.S.CharSource g.met.S.CharSource.ground_through _ c.in-LeftMiddle.is _ _ _ _ _ _ _ _ _ _ _ _
    told.reads told.cause told.exact other.not-Right other.not-RightLeft other.not-RightMiddle
    c.copy_to.ensures

pub returns-in-LeftRight : goal.returns-in-LeftRight
unfolding done_at gesture_needs_no_byte
returns-in-LeftRight g c =
    let told = c.in_ok-pos-in_default.ensures.told in
    let other = c.in_default in
    does_at g.S.CharSource g.met.S.CharSource.ground_through _ c.in-LeftRight.is _ _ _ _ _ _ _ _ _ _ _ _
    told.reads told.cause told.exact other.not-Right other.not-RightLeft other.not-RightMiddle
    c.take_looks.ensures

pub returns-in_default-keys : goal.returns-in_default-keys
unfolding done_at gesture_needs_no_byte
returns-in_default-keys g c =
    let told = c.in_ok-pos-in_default.ensures.told in
    let other = c.in_default in
    does_at g.S.CharSource g.met.S.CharSource.ground_through _ (last_keys _ other.not-Right
    other.not-RightLeft other.not-RightMiddle other.not-MiddleLeft other.not-MiddleRight c.in_default-keys.not-Left
    c.in_default-keys.not-LeftMiddle c.in_default-keys.not-LeftRight) _ _ _ _ _ _ _ _ _ _ _ _
    told.reads told.cause told.exact other.not-Right other.not-RightLeft other.not-RightMiddle
    (reading g.S.CharSource refl c.call.ensures)
