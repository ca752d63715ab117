-- What is told with a scene, where one is due.
use Rattle.std.proofs.Common.{◌≡◌, true, false, sym}
use Rattle.std.proofs.lemmas.Bool.{cond-true, cond-false}
use Rattle.desktop_definitions.specs.Desktop.{Desktop}
use Rattle.desk_sitting.specs.declared.sitting.Sitting.{Sitting}
use Rattle.desk_sitting.specs.Sittings.{is_scene_due}
use Rattle.desk_sitting.specs.Telling.{mark_told, rest_marked, rest_told}

module _ (d : Desktop) (s : Sitting) where
  -- nothing is told where no scene is due
  pub not_due : is_scene_due s ≡ false → s ≡ mark_told d s
  not_due is = λ k. record s { saying = sym (cond-false (is_scene_due s) (rest_told d s.saying) s.saying is) k }

  pub due : is_scene_due s ≡ true → rest_marked d s ≡ mark_told d s
  due is = λ k. record s { saying = sym (cond-true (is_scene_due s) (rest_told d s.saying) s.saying is) k }
