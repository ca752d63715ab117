-- An image in sections is the image.
use Rattle.std.proofs.Common.{◌≡◌, ℕ, ◌-◌, List, Option, Some, None, refl, sym, ◌∙◌, Result, Ok, Err, ap}
use Rattle.event_bytes.specs.Parts.{◌>>=◌}
use Rattle.desktop_definitions.specs.Limits.{most_held}
use Rattle.image_format.specs.declared.fault.ImageFault.{ImageFault}
use Rattle.image_format.specs.declared.picture.ViewerPicture.{ViewerPicture}
use Rattle.image_format.specs.declared.source.ByteSource.{Ghosts as SourceGhosts}
use Rattle.image_format.specs.Fitting.{length_of_pieces, totals}
use Rattle.image_format.specs.Image.{Image, Front, Held, Shown, image_with}
use Rattle.image_format.specs.Reading.{optional_at, image_look_at, pattern_at, image_cell_at, texts_at, files_at, pieces_at}
use Rattle.image_format.specs.Reading.{viewers_at, stack_at, closed_at, desktop_image_at}
use Rattle.image_format.specs.Steps.{front_at, held_at, shown_at, sections_at}
use Rattle.image_format.specs.Streams.{Reads}
use Rattle.image_format.proofs.Parts.{follows_on, fails, makes}

-- what is made of some steps, and goes on
module _ {D E : Type 0} (next : D → Option E) where
  one : {A : Type 0} (a : Option A) (make : A → D) → (a >>= (λ x. Some (make x))) >>= next ≡ a >>= λ x. next (make x)
  one None make = refl
  one (Some x) make = refl

  two : {A B : Type 0} (a : Option A) (b : A → Option B) (make : A → B → D)
      → (a >>= λ x. b x >>= λ y. Some (make x y)) >>= next ≡ a >>= λ x. b x >>= λ y. next (make x y)
  two None b make = refl
  two (Some x) b make = one (b x) (make x)

  three : {A B C : Type 0} (a : Option A) (b : A → Option B) (c : A → B → Option C) (make : A → B → C → D)
      → (a >>= λ x. b x >>= λ y. c x y >>= λ z. Some (make x y z)) >>= next
      ≡ a >>= λ x. b x >>= λ y. c x y >>= λ z. next (make x y z)
  three None b c make = refl
  three (Some x) b c make = two (b x) (c x) (make x)

  four : {A B C F : Type 0} (a : Option A) (b : A → Option B) (c : A → B → Option C) (f : A → B → C → Option F)
      (make : A → B → C → F → D)
      → (a >>= λ x. b x >>= λ y. c x y >>= λ z. f x y z >>= λ w. Some (make x y z w)) >>= next
      ≡ a >>= λ x. b x >>= λ y. c x y >>= λ z. f x y z >>= λ w. next (make x y z w)
  four None b c f make = refl
  four (Some x) b c f make = three (b x) (c x) (f x) (make x)

-- each section, and what follows it
module _ {E : Type 0} where
  front_then : (next : Front × List ℕ → Option E) (bytes : List ℕ) → front_at bytes >>= next
      ≡ image_look_at bytes >>= λ look. pattern_at look.1 >>= λ pattern. optional_at image_cell_at pattern.1 >>= λ marker.
      next ((look.0, pattern.0, marker.0), marker.1)
  unfolding front_at
  front_then next bytes = three next (image_look_at bytes) (λ look. pattern_at look.1)
      (λ look pattern. optional_at image_cell_at pattern.1) (λ look pattern marker. ((look.0, pattern.0, marker.0), marker.1))

  held_then : (written : ℕ) (next : Held × List ℕ → Option E) (bytes : List ℕ) → held_at written bytes >>= next
      ≡ texts_at written most_held bytes >>= λ texts.
      files_at written (most_held - totals texts.0) texts.1 >>= λ files.
      pieces_at written (most_held - totals texts.0 - totals files.0) files.1 >>= λ copied.
      pieces_at written (most_held - totals texts.0 - totals files.0 - length_of_pieces copied.0) copied.1 >>= λ deleted.
      next ((texts.0, files.0, copied.0, deleted.0), deleted.1)
  unfolding held_at
  held_then written next bytes = four next (texts_at written most_held bytes)
      (λ texts. files_at written (most_held - totals texts.0) texts.1)
      (λ texts files. pieces_at written (most_held - totals texts.0 - totals files.0) files.1)
      (λ texts files copied.
      pieces_at written (most_held - totals texts.0 - totals files.0 - length_of_pieces copied.0) copied.1)
      (λ texts files copied deleted. ((texts.0, files.0, copied.0, deleted.0), deleted.1))

  shown_then : (version : ℕ) (next : Shown × List ℕ → Option E) (bytes : List ℕ) → shown_at version bytes >>= next
      ≡ stack_at version bytes >>= λ user. stack_at version user.1 >>= λ system.
      optional_at (closed_at version) system.1 >>= λ closed. next ((user.0, system.0, closed.0), closed.1)
  unfolding shown_at
  shown_then version next bytes = three next (stack_at version bytes) (λ user. stack_at version user.1)
      (λ user system. optional_at (closed_at version) system.1)
      (λ user system closed. ((user.0, system.0, closed.0), closed.1))

-- what follows each section
abbrev pub with_shown : Front → Held → List ViewerPicture → Shown × List ℕ → Option (Image × List ℕ)
with_shown front held viewers shown = Some (image_with front held viewers shown.0, shown.1)

abbrev pub with_held : ℕ → Front → Held × List ℕ → Option (Image × List ℕ)
with_held version front held = viewers_at version held.1 >>= λ viewers.
    shown_at version viewers.1 >>= with_shown front held.0 viewers.0

abbrev pub with_front : ℕ → ℕ → Front × List ℕ → Option (Image × List ℕ)
with_front version written front = held_at written front.1 >>= with_held version front.0

pub image_in_sections : (version written : ℕ) (bytes : List ℕ)
    → desktop_image_at version written bytes ≡ sections_at version written bytes
unfolding desktop_image_at
image_in_sections version written bytes = sym (front_then (with_front version written) bytes
    ∙ (λ i. image_look_at bytes >>= λ look. pattern_at look.1 >>= λ pattern. optional_at image_cell_at pattern.1 >>= λ marker.
    (held_then written (with_held version (look.0, pattern.0, marker.0)) marker.1
    ∙ (λ j. texts_at written most_held marker.1 >>= λ texts.
    files_at written (most_held - totals texts.0) texts.1 >>= λ files.
    pieces_at written (most_held - totals texts.0 - totals files.0) files.1 >>= λ copied.
    pieces_at written (most_held - totals texts.0 - totals files.0 - length_of_pieces copied.0) copied.1 >>= λ deleted.
    viewers_at version deleted.1 >>= λ viewers.
    shown_then version
    (with_shown (look.0, pattern.0, marker.0) (texts.0, files.0, copied.0, deleted.0) viewers.0) viewers.1
    j)) i))

-- ---- a section was read, and what follows it

module _ {S X Z : Type 0} {s : SourceGhosts S} {x : X} {all : Z → Image} {result : Result Z ImageFault}
    {old mid new : S} (through : (a b c : S) → s.same_ground a b → s.same_ground b c → s.same_ground a c)
    (version written : ℕ) where
  pub after_front : {view : X → Front} → Reads s view (Ok x) front_at old mid
      → Reads s all result (λ bytes. with_front version written (view x, bytes)) mid new
      → Reads s all result (desktop_image_at version written) old new
  after_front front others = follows_on through (desktop_image_at version written) front
      (λ bytes after is. image_in_sections version written bytes
      ∙ ap (λ r. r >>= with_front version written) is) others

  pub after_held : {view : X → Held} (front : Front) → Reads s view (Ok x) (held_at written) old mid
      → Reads s all result (λ bytes. with_held version front (view x, bytes)) mid new
      → Reads s all result (λ bytes. with_front version written (front, bytes)) old new
  after_held front held others = follows_on through (λ bytes. with_front version written (front, bytes)) held
      (λ bytes after is. ap (λ r. r >>= with_held version front) is) others

  pub after_viewers : {view : X → List ViewerPicture} (front : Front) (held : Held)
      → Reads s view (Ok x) (viewers_at version) old mid
      → Reads s all result (λ bytes. shown_at version bytes >>= with_shown front held (view x)) mid new
      → Reads s all result (λ bytes. with_held version front (held, bytes)) old new
  after_viewers front held viewers others = follows_on through (λ bytes. with_held version front (held, bytes)) viewers
      (λ bytes after is. ap
      (λ r. r >>= λ viewers. shown_at version viewers.1 >>= with_shown front held viewers.0) is) others

-- ---- what follows the first two sections

module _ {S X Y Z : Type 0} {s : SourceGhosts S} {view_front : X → Front} {x : X} {view_held : Y → Held} {y : Y}
    {all : Z → Image} {old mid far : S}
    (through : (a b c : S) → s.same_ground a b → s.same_ground b c → s.same_ground a c) (version written : ℕ)
    (front : Reads s view_front (Ok x) front_at old mid)
    (held : Reads s view_held (Ok y) (held_at written) mid far) where
  after_both : {result : Result Z ImageFault} {new : S}
      → Reads s all result (λ bytes. with_held version (view_front x) (view_held y, bytes)) far new
      → Reads s all result (desktop_image_at version written) old new
  after_both others =
      after_front through version written front (after_held through version written (view_front x) held others)

  -- the viewers were not read
  pub without_viewers : {V : Type 0} {view : V → List ViewerPicture} {e : ImageFault} {new : S}
      → Reads s view (Err e) (viewers_at version) far new → Reads s all (Err e) (desktop_image_at version written) old new
  without_viewers viewers = after_both (fails all (λ bytes. with_held version (view_front x) (view_held y, bytes))
      viewers (λ bytes is. ap
      (λ r. r >>= λ viewers. shown_at version viewers.1
      >>= with_shown (view_front x) (view_held y) viewers.0) is))

  module _ {V : Type 0} {view : V → List ViewerPicture} {v : V} {end new : S}
      (viewers : Reads s view (Ok v) (viewers_at version) far end) where
    after_three : {result : Result Z ImageFault}
        → Reads s all result (λ bytes. shown_at version bytes >>= with_shown (view_front x) (view_held y) (view v))
        end new
        → Reads s all result (desktop_image_at version written) old new
    after_three others =
        after_both (after_viewers through version written (view_front x) (view_held y) viewers others)

    -- the tracks were not read
    pub without_shown : {W : Type 0} {view_shown : W → Shown} {e : ImageFault}
        → Reads s view_shown (Err e) (shown_at version) end new
        → Reads s all (Err e) (desktop_image_at version written) old new
    without_shown shown = after_three (fails all _ shown
        (λ bytes is. ap (λ r. r >>= with_shown (view_front x) (view_held y) (view v)) is))

    -- all was read
    pub with_all : {W : Type 0} {view_shown : W → Shown} {w : W} (z : Z)
        → Reads s view_shown (Ok w) (shown_at version) end new
        → ((after : List ℕ) → with_shown (view_front x) (view_held y) (view v) (view_shown w, after)
        ≡ Some (all z, after)) → Reads s all (Ok z) (desktop_image_at version written) old new
    with_all z shown is = after_three (makes all z _ shown
        (λ bytes after read. ap (λ r. r >>= with_shown (view_front x) (view_held y) (view v)) read ∙ is after))
