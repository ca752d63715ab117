-- What a disk is before one of its sectors: those that a twin shows, which are before the one with the flag.
use Rattle.std.specs.Prelude.{ℕ, nat_lt, [], false, if◌then◌else◌}
use Rattle.sector_disk.specs.declared.disk.Disk.{Ghosts}
use Rattle.sector_disk.specs.Trail.{Content, Moment, Trail}

-- the sectors before this one; from it on there is nothing
abbrev pub bounded_content : ℕ → Content → Content
bounded_content size c n = if nat_lt n size then c n else []

abbrev pub bounded_moment : ℕ → Moment → Moment
bounded_moment size m = record {
  reads = bounded_content size m.reads;
  pending = λ n. if nat_lt n size then m.pending n else false;
}

abbrev pub bounded : ℕ → Trail → Trail
bounded size d = record { clock = d.clock; at = λ t. bounded_moment size (d.at t) }

-- what is known of a disk, said of the sectors before this one alone
abbrev pub within : ℕ → {D : Type 0} → Ghosts D → Ghosts D
within size d = record {
  size = d.size;
  trail = λ x. bounded size (d.trail x);
  failures = d.failures;
  honest = d.honest;
}
