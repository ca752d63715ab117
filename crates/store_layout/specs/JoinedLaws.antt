-- A sink or a source over sectors stays the same when nothing is done, and over one call after another.
use Rattle.std.specs.Prelude.{ℕ}
use Rattle.std.specs.Borrow.{GName}
use Rattle.std.proofs.Common.{refl, ◌∙◌, subst}
use Rattle.sector_disk.specs.declared.disk.Disk.{Ghosts}
use Rattle.sector_disk.specs.Confined.{IsConfined}
use Rattle.sector_disk.proofs.Confinement.{stays_put, joined}
use Rattle.store_layout.specs.Joined.{OnSameStretch}

module _ {D : Type 0} {d : Ghosts D} {Area : ℕ → ℕ → ℕ → Type 0} where
  pub stretch_self : {s : D} {from many : ℕ} {disk bytes : GName}
      → OnSameStretch d Area s s from from many many disk disk bytes bytes
  stretch_self {s = s} {from = from} {many = many} = record {
    confined = stays_put d.size d.honest d.trail (Area from many) s;
    same_from = refl;
    same_many = refl;
    same_disk = refl;
    same_bytes = refl;
  }

  pub stretch_through : {s s' s'' : D} {from from' from'' many many' many'' : ℕ}
      {i i' i'' j j' j'' : GName}
      → OnSameStretch d Area s s' from from' many many' i i' j j'
      → OnSameStretch d Area s' s'' from' from'' many' many'' i' i'' j' j''
      → OnSameStretch d Area s s'' from from'' many many'' i i'' j j''
  stretch_through {s' = s'} {s'' = s''} {from = from} {many' = many'} x y = record {
    confined = joined d.size d.honest d.trail x.confined
        (subst (λ n. IsConfined d.size d.honest d.trail (Area from n) s' s'') x.same_many
        (subst (λ n. IsConfined d.size d.honest d.trail (Area n many') s' s'') x.same_from
        y.confined));
    same_from = y.same_from ∙ x.same_from;
    same_many = y.same_many ∙ x.same_many;
    same_disk = y.same_disk ∙ x.same_disk;
    same_bytes = y.same_bytes ∙ x.same_bytes;
  }
