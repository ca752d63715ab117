-- What a slot starts from: the characters of the area and of its image, and its desktop.
use Rattle.std.proofs.Common.{◌≡◌, ℕ, ◌+◌, ◌<◌, ◌≤◌, List, [], ◌∷◌, ◌++◌}
use Rattle.std.proofs.Common.{length, take, drop, length-append, append_assoc}
use Rattle.std.proofs.Common.{sym, ◌∙◌, ap, subst, arith}
use Rattle.std.specs.Prelude.{set}
use Rattle.std.proofs.lemmas.List.{take_more_set, take_at, drop_at, length-take-le}
use Rattle.sector_disk.specs.declared.disk.TheConstants.{SECTOR_BYTES}
use Rattle.sector_disk.specs.Trail.{Content}
use Rattle.sector_disk.specs.Stored.{stored}
use Rattle.image_format.specs.Image.{Spells}
use Rattle.desktop_definitions.specs.Desktop.{Desktop, KeptDesktop}
use Rattle.desktop_definitions.specs.Seen.{seen}
use Rattle.store_layout.specs.declared.head.Head.{Head}
use Rattle.store_layout.specs.Layout.{image_at, head}
use Rattle.store_layout.specs.Meaning.{MakesDesktop, HasImage, area_bytes, full_sectors, left_over}
use Rattle.store_slots.specs.declared.live.LiveDesktop.{LiveDesktop}
use Rattle.store_slots.specs.Live.{live_characters, seen_live}
use Rattle.store_slots.specs.Load.{IsStart}

-- ---- bytes that are taken into a sector: so far i of them, and the rest is to come

pub byte_taken : (old tail rest next : List ℕ) (i b : ℕ) → old ≡ take i tail ++ rest → rest ≡ b ∷ next
    → i < length tail → old ≡ take (i + 1) (set tail i b) ++ next
byte_taken old tail rest next i b was first low = was ∙ ap (λ r. take i tail ++ r) first
    ∙ sym (append_assoc (take i tail) (b ∷ []) next) ∙ ap (λ l. l ++ next) (sym (take_more_set tail i b low))

pub cut_short : (old tail rest : List ℕ) (i count : ℕ) → old ≡ take i tail ++ rest → rest ≡ [] → i < count
    → count ≤ length tail → length old < count
cut_short old tail rest i count was none low room =
    let long : length old ≡ length (take i tail) + length rest = ap length was ∙ length-append (take i tail) rest in
    let front : length (take i tail) ≡ i = length-take-le i tail (omega (arith, low, room)) in
    omega (arith, low, long, front, ap length none)

-- the first of the bytes are those that were taken, and the rest of them is to come
pub record AreTaken (old tail rest : List ℕ) (count : ℕ) : Type 0 where
  pub enough : count ≤ length old
  pub first : take count old ≡ take count tail
  pub later : rest ≡ drop count old

pub all_taken : (old tail rest : List ℕ) (count : ℕ) → old ≡ take count tail ++ rest → count ≤ length tail
    → AreTaken old tail rest count
all_taken old tail rest count was room = record {
  enough = omega (arith, ap length was ∙ length-append (take count tail) rest, front);
  first = ap (take count) was ∙ take_at (take count tail) rest count front;
  later = sym (ap (drop count) was ∙ drop_at (take count tail) rest count front);
}
  where
    front : length (take count tail) ≡ count
    front = length-take-le count tail room

-- the same where the loop over them has ended
pub taken_to : (old tail rest : List ℕ) (i count : ℕ) → old ≡ take i tail ++ rest → count ≤ i → i ≤ count
    → count < SECTOR_BYTES → length tail ≡ SECTOR_BYTES → AreTaken old tail rest count
taken_to old tail rest i count was above below few wide =
    let here : i ≡ count = omega (arith, above, below) in
    all_taken old tail rest count (subst (λ n. old ≡ take n tail ++ rest) here was) (omega (arith, few, wide))

-- ---- the slot

-- the start of a slot, by another name of its bytes
pub start_from : {honest : Type 0} {bytes bytes' tail : List ℕ} {version written : ℕ} {d : KeptDesktop}
    → (honest → bytes' ≡ bytes) → IsStart honest bytes' version written tail d
    → IsStart honest bytes version written tail d
start_from {version = version} {written = written} {d = d} same start = record {
  front = λ h. start.front h ∙ ap (take (left_over written)) (same h);
  enough = λ h. subst (λ l. left_over written ≤ length l) (same h) (start.enough h);
  spelled = λ h. subst (λ l. Spells version written (drop (left_over written) l) d) (same h) (start.spelled h);
  whole = start.whole;
  count = start.count;
}

module _ (c : Content) (slot : ℕ) (h : Head) (is : head c slot ≡ h) where
  -- a desktop of this head
  abbrev MadeBy : Desktop → Head → Type 0
  MadeBy start x = MakesDesktop x (stored c (image_at slot) x.extent) (area_bytes c x.area (full_sectors x.written)) start

  module _ (characters : List ℕ) (made : characters ≡ area_bytes c h.area (full_sectors h.written)
      ++ take (left_over h.written) (stored c (image_at slot) h.extent)) where
    pub image_loaded : (d : KeptDesktop) → left_over h.written ≤ length (stored c (image_at slot) h.extent)
        → Spells h.version h.written (drop (left_over h.written) (stored c (image_at slot) h.extent)) d
        → HasImage c slot (seen characters d)
    image_loaded d enough spelled = subst (MadeBy (seen characters d)) (sym is) (record {
      kept = d;
      tail = enough;
      spells = spelled;
      is = ap (λ l. seen l d) (sym made);
    })

  pub none_loaded : (left_over h.written ≤ length (stored c (image_at slot) h.extent) → (d : KeptDesktop)
      → Spells h.version h.written (drop (left_over h.written) (stored c (image_at slot) h.extent)) d → ⊥)
      → (start : Desktop) → HasImage c slot start → ⊥
  none_loaded none start has = let made : MadeBy start h = subst (MadeBy start) is has in
      none made.tail made.kept made.spells

-- a live desktop of what was read shows it, over the same content by another name
pub shown_by : (c c' : Content) (slot : ℕ) (h : Head) → c' ≡ c → head c slot ≡ h → (tail : List ℕ) (d : KeptDesktop)
    (live : LiveDesktop) → live.desktop ≡ d
    → live_characters c live ≡ area_bytes c h.area (full_sectors h.written) ++ take (left_over h.written) tail
    → take (left_over h.written) tail ≡ take (left_over h.written) (stored c (image_at slot) h.extent)
    → left_over h.written ≤ length (stored c (image_at slot) h.extent)
    → Spells h.version h.written (drop (left_over h.written) (stored c (image_at slot) h.extent)) d
    → HasImage c slot (seen_live c' live)
shown_by c c' slot h same is tail d live desktop characters front enough spelled =
    subst (λ (content : Content). HasImage c slot (seen_live content live)) (sym same)
    (subst (λ k. HasImage c slot (seen (live_characters c live) k)) (sym desktop)
    (image_loaded c slot h is (live_characters c live)
    (characters ∙ ap (λ l. area_bytes c h.area (full_sectors h.written) ++ l) front) d enough spelled))
