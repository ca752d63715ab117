-- Two desktops that are compared as they are seen.
use Rattle.std.proofs.Common.{◌≡◌, ℕ, List, Bool, true, false, Decides, refl, sym, ◌∙◌, ap, subst}
use Rattle.sector_disk.specs.Trail.{Content}
use Rattle.piece_ring.specs.Text.{Text}
use Rattle.desktop_definitions.specs.Desktop.{KeptDesktop}
use Rattle.desktop_definitions.specs.Seen.{seen}
use Rattle.image_format.specs.Laws.{UniqueLaw}
use Rattle.store_layout.proofs.Bits.{clash}
use Rattle.store_layout.specs.declared.head.Head.{Head}
use Rattle.store_layout.specs.Layout.{head}
use Rattle.store_layout.specs.Meaning.{HasImage, area_bytes, full_sectors, slot_image_bytes}
use Rattle.seen_desktops.specs.Shape.{HaveOneShape, ShapeLaw, all_characters_of}
use Rattle.store_slots.specs.declared.live.LiveDesktop.{LiveDesktop}
use Rattle.store_slots.specs.Live.{seen_live}
use Rattle.store_slots.proofs.Formers.{one_start}

module _ (law : ShapeLaw) (one other : KeptDesktop) (characters others : List ℕ) where
  -- they have two shapes
  pub other_shape : {b : Bool} → Decides b (HaveOneShape one other) → b ≡ false
      → Decides false (seen characters one ≡ seen others other)
  other_shape shape differs = (
    λ wrong. absurd (clash wrong refl),
    λ same. absurd (clash (shape.1 ((law one other characters others).0 same).0) differs),
  )

  -- they have one: their characters decide
  pub by_characters : {b b' : Bool} {mine theirs : Text ℕ} → Decides b (HaveOneShape one other) → b ≡ true
      → mine ≡ all_characters_of (seen characters one) → theirs ≡ all_characters_of (seen others other)
      → Decides b' (mine ≡ theirs) → Decides b' (seen characters one ≡ seen others other)
  by_characters shape is_one first second same = (
    λ is. (law one other characters others).1 (shape.0 is_one, sym first ∙ same.0 is ∙ second),
    λ is. same.1 (first ∙ ((law one other characters others).0 is).1 ∙ sym second),
  )

-- a slot starts from a desktop, if what was loaded of its start is the same
pub starts_so : {h : Head} {b : Bool} (c c1 c2 : Content) (slot : ℕ) (live start : LiveDesktop) → UniqueLaw → c1 ≡ c
    → c2 ≡ c → head c slot ≡ h → (head c1 slot ≡ h → HasImage c1 slot (seen_live c2 start))
    → Decides b (seen_live c2 live ≡ seen_live c2 start) → Decides b (HasImage c slot (seen_live c live))
starts_so {h = h} c c1 c2 slot live start unique first second is image same =
    let there : HasImage c slot (seen_live c2 start) = subst (λ x. head x slot ≡ h → HasImage x slot (seen_live c2 start))
    first image is in
    let still : seen_live c2 live ≡ seen_live c live = ap (λ (x : Content). seen_live x live) second in (
      λ is_it. subst (HasImage c slot) (sym (same.0 is_it) ∙ still) there,
      λ here. same.1 (still ∙ one_start unique (head c slot) (slot_image_bytes c slot)
          (area_bytes c (head c slot).area (full_sectors (head c slot).written)) (seen_live c live) (seen_live c2 start)
          here there),
    )
