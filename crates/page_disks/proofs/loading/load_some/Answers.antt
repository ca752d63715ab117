use Rattle.std.proofs.Common.{◌≡◌, ◌∙◌, ap, refl, subst, ℕ, arith}
use Rattle.sector_disk.specs.Trail.{now}
use Rattle.page_disks.specs.Loading.{ReadsWith, whole_sectors}
use Rattle.page_disks.specs.Recording.{trail_since}
use Rattle.page_disks.proofs.Loaded.{has_loaded, none_yet, one_more}
use Rattle.page_disks.proofs.loading.load_some.Goals as goal

pub loop-n-init : goal.loop-n-init
loop-n-init c = (refl, none_yet c.args.bytes.now c.args.first _)

pub loop-n-preserved : goal.loop-n-preserved
loop-n-preserved c = (
  c.load.ensures.size ∙ c.loop-n.invariant.0,
  one_more c.args.bytes.now c.args.first c.loop-n.n _ c.loop-n.disk c.load.new.disk c.loop-n.invariant.1
      c.in_ok-load.ensures.written,
)

pub returns-in-Ok : goal.returns-in-Ok
returns-in-Ok c =
    let end : c.loop-n.n ≡ c.sectors_in-n-end.result = omega (arith, c.loop-n-test.false, c.loop-n.auto.n-end) in
    has_loaded c.args.bytes.now c.args.first c.args.disk.now c.loop-n.disk c.sync.new.self c.forget.new.self
    c.loop-n.invariant.0
    (subst (λ (n : ℕ). ReadsWith c.args.bytes.now c.args.first n (now (trail_since c.args.disk.now)).reads
    (now (trail_since c.loop-n.disk)).reads) (end ∙ c.sectors_in-n-end.ensures.count ∙ ap (whole_sectors c.args.bytes.now c.args.first) c.sectors.ensures) c.loop-n.invariant.1)
    c.in-Ok.ensures.recorded c.forget.ensures
