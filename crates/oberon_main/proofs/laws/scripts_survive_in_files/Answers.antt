use Rattle.std.proofs.Common.{ℕ, List, Option, None, Some, IfSome}
use Rattle.sector_disk.proofs.FileLeaving.{file_leaves, file_leaves_only}
use Rattle.oberon_main.proofs.ByLines.{scripts_kept}
use Rattle.oberon_main.proofs.laws.scripts_survive_in_files.Goals as goal

some_so : (known : Option (List ℕ)) (P Q : List ℕ → Type 0) → ((x : List ℕ) → P x → Q x) → IfSome known P
    → IfSome known Q
some_so None P Q implies there = tt
some_so (Some x) P Q implies there = implies x there

pub returns : goal.returns
returns g c = λ why end old new played. some_so old.left _ _ (λ script left. record {
  answered = left.answered;
  begins = left.begins;
  written = left.written;
  kept = record {
    any_moment = file_leaves_only _ _ _ left.kept.any_moment;
    at_last = file_leaves _ _ left.kept.at_last;
  };
}) (scripts_kept _ why end old new played)
