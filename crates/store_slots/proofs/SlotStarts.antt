-- What stands in a slot where it is what a checkpoint of a desktop writes.
use Rattle.std.proofs.Common.{◌≡◌, ℕ, ◌+◌, ◌*◌, ◌<◌, ◌≤◌, List, [], ◌∷◌, ◌++◌, length, take, drop, refl, sym, ◌∙◌, ap, subst}
use Rattle.std.proofs.Common.{Option, Some, Bool, true, false, arith, length-append, append_assoc}
use Rattle.std.specs.Prelude.{◌&&◌}
use Rattle.std.proofs.Math.Seq.{take-add, take-append_seam, drop-append_seam, drop-append-add}
use Rattle.std.proofs.lemmas.Bool.{and_parts}
use Rattle.std.proofs.lemmas.List.{append-nil, length-take-le, length-drop, take-append-drop}
use Rattle.sector_disk.specs.Trail.{Content}
use Rattle.sector_disk.specs.Stored.{stored}
use Rattle.sector_disk.proofs.StoredLaws.{sector_more, length-stored}
use Rattle.sector_disk.specs.declared.disk.TheConstants.{SECTOR_BYTES}
use Rattle.store_layout.specs.Draining.{IsSectorLoaded, bytes_left, extent_of, start_sector}
use Rattle.char_pages.specs.Pages.{base_of, renewed_of, saved_of}
use Rattle.command_table.specs.Versions.{newest_version}
use Rattle.desktop_definitions.specs.Desktop.{KeptDesktop}
use Rattle.desktop_definitions.specs.Seen.{seen}
use Rattle.desktop_definitions.specs.Sound.{IsOver}
use Rattle.image_format.specs.Image.{image_of, image_bytes, IsSpellable}
use Rattle.image_format.specs.Passing.{IsNext}
use Rattle.store_layout.specs.declared.head.Head.{Head}
use Rattle.store_layout.specs.declared.layout.TheConstants.{LAYOUT}
use Rattle.store_layout.specs.Layout.{area_start, area_at, image_at, head}
use Rattle.store_layout.specs.Meaning.{HasImage, MakesDesktop, full_sectors, left_over}
use Rattle.store_layout.specs.Kept.{HasFront, chosen_area}
use Rattle.store_slots.specs.declared.comparing.Comparing.{Comparing}
use Rattle.store_slots.specs.declared.live.LiveDesktop.{LiveDesktop}
use Rattle.store_slots.specs.Comparing.{HasAgreed}
use Rattle.store_slots.specs.Live.{IsLive}

-- ---- bytes that come

-- one byte more
pub byte_agrees : (c c' : Content) (x x' : Comparing) (byte : ℕ) (found : Option ℕ) (here : Bool) (bytes : List ℕ)
    → c' ≡ c → start_sector x'.draining ≡ start_sector x.draining → extent_of x'.draining ≡ extent_of x.draining
    → x'.same ≡ (x.same && here) → (here ≡ true → found ≡ Some byte)
    → (IsSectorLoaded c x.draining → IsSectorLoaded c' x'.draining)
    → (IsSectorLoaded c x.draining → IsNext found (bytes_left c x.draining) (bytes_left c' x'.draining))
    → HasAgreed c x bytes → HasAgreed c' x' (bytes ++ byte ∷ [])
byte_agrees c c' x x' byte found here bytes kept from extent same is loaded next was = record {
  loaded = loaded was.loaded;
  agrees = λ all.
      let both = and_parts x.same here (sym same ∙ all) in
      let left = bytes_left c' x'.draining in
      let more : bytes_left c x.draining ≡ byte ∷ left =
      subst (λ f. IsNext f (bytes_left c x.draining) left) (is both.1) (next was.loaded) in
      (λ i. stored (kept i) (from i) (extent i)) ∙ was.agrees both.0 ∙ ap (λ l. bytes ++ l) more
      ∙ sym (append_assoc bytes (byte ∷ []) left);
}

-- as many bytes came as stand there
pub none_left : (all came left : List ℕ) → all ≡ came ++ left → length all ≡ length came → all ≡ came
none_left all came [] is long = is ∙ append-nil came
none_left all came (byte ∷ more) is long =
    absurd (omega (arith, ap length is, long, length-append came (byte ∷ more)))

pub image_agrees : (c : Content) (from extent count : ℕ) (tail bytes left : List ℕ)
    → stored c from extent ≡ (tail ++ bytes) ++ left → count ≡ length bytes → length tail + count ≡ extent
    → stored c from extent ≡ tail ++ bytes
image_agrees c from extent count tail bytes left is count_is long =
    none_left (stored c from extent) (tail ++ bytes) left is
    (length-stored c from extent ∙ omega (arith, long, count_is, length-append tail bytes))

-- ---- the characters in the area

front_here : (c : Content) (area n : ℕ) (characters : List ℕ) → SECTOR_BYTES * (n + 1) ≤ length characters
    → c (area_at area n) ≡ take SECTOR_BYTES (drop (SECTOR_BYTES * n) characters) → HasFront c area n characters
    → HasFront c area (n + 1) characters
front_here c area n characters room is was =
    let sector = take SECTOR_BYTES (drop (SECTOR_BYTES * n) characters) in
    let wide : length sector ≡ SECTOR_BYTES =
    length-take-le SECTOR_BYTES (drop (SECTOR_BYTES * n) characters)
    (omega (arith, room, length-drop (SECTOR_BYTES * n) characters)) in
    sector_more c (area_start area) n sector is wide
    ∙ ap (λ l. l ++ sector) was
    ∙ sym (take-add (SECTOR_BYTES * n) SECTOR_BYTES characters)
    ∙ ap (λ i. take i characters) (omega arith)

-- sector i of the characters after those that stand in the area already
pub rest_here : (c : Content) (area saved i : ℕ) (front rest : List ℕ) → SECTOR_BYTES * (i + 1) ≤ length rest
    → c (area_at area (saved + i)) ≡ take SECTOR_BYTES (drop (SECTOR_BYTES * i) rest)
    → length front ≡ SECTOR_BYTES * saved
    → HasFront c area (saved + i) (front ++ rest) → HasFront c area (saved + i + 1) (front ++ rest)
rest_here c area saved i front rest room is long was =
    front_here c area (saved + i) (front ++ rest) (omega (arith, long, room, length-append front rest))
    (is ∙ ap (take SECTOR_BYTES) (sym (drop-append-add front rest (SECTOR_BYTES * i)))
    ∙ ap (λ n. take SECTOR_BYTES (drop n (front ++ rest))) (omega (arith, long))) was

-- where the characters on the disk begin, if there are any
pub based_there : (live : LiveDesktop) (area : ℕ) → IsLive live → area ≡ chosen_area (renewed_of live.pages) live.area
    → 0 < saved_of live.pages → base_of live.pages ≡ area_start area
based_there live area is area_is some = is.based
    ∙ ap (λ k. area_start k) (sym (area_is ∙ (elim (renewed_of live.pages) as
    (λ b. renewed_of live.pages ≡ b → chosen_area b live.area ≡ live.area) [
      | true ↦ λ anew. absurd (let none = live.pages.anew anew in omega (arith, some, none))
      | false ↦ λ not. refl
    ]) refl))

-- ---- the whole

pub starts_here : (c : Content) (slot : ℕ) (h : Head) (d : KeptDesktop) (characters : List ℕ) → head c slot ≡ h
    → h.version ≡ LAYOUT → h.written ≡ length characters → IsOver characters d → IsSpellable newest_version d
    → stored c (image_at slot) h.extent
    ≡ drop (SECTOR_BYTES * full_sectors (length characters)) characters ++ image_bytes newest_version (image_of d)
    → HasFront c h.area (full_sectors (length characters)) characters → HasImage c slot (seen characters d)
starts_here c slot h d characters is version written over parts image area =
    subst (λ x. MakesDesktop x (stored c (image_at slot) x.extent)
    (stored c (area_start x.area) (SECTOR_BYTES * full_sectors x.written)) (seen characters d)) (sym here)
    (subst (λ l. MakesDesktop plain l (stored c (area_start h.area)
    (SECTOR_BYTES * full_sectors (length characters))) (seen characters d)) (sym image)
    (subst (λ l. MakesDesktop plain (tail ++ bytes) l (seen characters d)) (sym area) made))
  where
    plain : Head
    plain = record {
      version = LAYOUT;
      epoch = h.epoch;
      written = length characters;
      extent = h.extent;
      area = h.area;
      past = h.past;
    }

    here : head c slot ≡ plain
    here = is ∙ (λ i. record {
      version = version i;
      epoch = h.epoch;
      written = written i;
      extent = h.extent;
      area = h.area;
      past = h.past;
    })

    tail : List ℕ
    tail = drop (SECTOR_BYTES * full_sectors (length characters)) characters

    bytes : List ℕ
    bytes = image_bytes newest_version (image_of d)

    tail_long : length tail ≡ left_over (length characters)
    tail_long = length-drop (SECTOR_BYTES * full_sectors (length characters)) characters ∙ omega arith

    made : MakesDesktop plain (tail ++ bytes) (take (SECTOR_BYTES * full_sectors (length characters)) characters)
        (seen characters d)
    made = record {
      kept = d;
      tail = omega (arith, tail_long, length-append tail bytes);
      spells = record {
        count = sym over.counted;
        whole = over.whole;
        parts = parts;
        exact = ap (λ n. drop n (tail ++ bytes)) (sym tail_long) ∙ drop-append_seam tail bytes;
      };
      is = ap (λ l. seen (take (SECTOR_BYTES * full_sectors (length characters)) characters ++ l) d)
          (ap (λ n. take n (tail ++ bytes)) (sym tail_long) ∙ take-append_seam tail bytes)
          ∙ ap (λ l. seen l d) (take-append-drop (SECTOR_BYTES * full_sectors (length characters)) characters);
    }
