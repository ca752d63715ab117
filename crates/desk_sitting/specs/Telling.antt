-- What there is to be told of a desktop with a scene.
use Rattle.std.specs.Prelude.{if◌then◌else◌}
use Rattle.desktop_definitions.specs.Desktop.{Desktop}
use Rattle.status_line.specs.declared.saying.Saying.{Saying}
use Rattle.status_line.specs.Choosing.{rest_saying, rests}
use Rattle.desk_sitting.specs.declared.sitting.Sitting.{Sitting}
use Rattle.desk_sitting.specs.Clips.{clip_told}
use Rattle.desk_sitting.specs.Sittings.{is_scene_due}
use Rattle.desk_sitting.specs.Stored.{unstored_caret}

-- Where the line below rests, it says whether the text with the caret isn't stored.
abbrev pub rest_told : Desktop → Saying → Saying
rest_told d saying = if rests saying then rest_saying (unstored_caret d) else saying

abbrev pub rest_marked : Desktop → Sitting → Sitting
rest_marked d s = record s { saying = rest_told d s.saying }

-- and with a scene it is found anew
abbrev pub told_saying : Desktop → Sitting → Saying
told_saying d s = if is_scene_due s then rest_told d s.saying else s.saying

abbrev pub mark_told : Desktop → Sitting → Sitting
mark_told d s = record s { saying = told_saying d s }

-- And where what was copied is too long for the clipboard, it says so.
unfoldable pub scene_told : Desktop → Sitting → Sitting
scene_told d s = clip_told d (mark_told d s)
