-- Texts that are compared stretch by stretch, and character by character.
use Rattle.std.specs.Prelude.{◌≡◌, ℕ, zero, suc, ◌+◌, ◌-◌, ◌<◌, ◌≤◌, ◌&&◌, ◌==◌, Bool, true, false, List, [], ◌∷◌, ◌++◌}
use Rattle.std.specs.Prelude.{length, drop, Some, slice_get, slice_index, option_map, Ok, Err}
use Rattle.std.specs.Cmp.{unsigned_Decides, signed_Decides}
use Rattle.std.proofs.Common.{refl, sym, ap, subst, ◌∙◌, append_assoc, length-append, arith}
use Rattle.std.proofs.lemmas.Bool.{and_parts}
use Rattle.std.proofs.lemmas.Bool.Decides.{nat_tests}
use Rattle.std.proofs.lemmas.List.{length-map, map-append}
use Rattle.std.proofs.lemmas.List.Elements.{All-head, All-tail}
use Rattle.std.proofs.lemmas.Option.{slice_get-map}
use Rattle.sector_disk.specs.declared.disk.Fault.{Fault}
use Rattle.sector_disk.specs.Trail.{CountsFault}
use Rattle.char_file.specs.declared.source.CharSource.{Ghosts}
use Rattle.char_file.specs.Source.{OnlyReads}
use Rattle.char_file.proofs.Reading.{read_on}
use Rattle.piece_ring.specs.declared.piece.Look.{Look}
use Rattle.piece_ring.specs.Flat.{run}
use Rattle.piece_ring.specs.Text.{AreWithin, Text}
use Rattle.piece_ring.proofs.Lengths.{length-run}
use Rattle.piece_ring.proofs.Runs.{run-append}
use Rattle.readers_scanners.specs.Promises.{ReadsOrFails}
use Rattle.readers_scanners.specs.Reading.{contents}
use Rattle.desk_views.specs.Unstored.{is_same_character, looks_alike, is_same_text}

-- both begin alike, or a character differs
pub same_at : (A B : Text ℕ) (at : ℕ) (c k : ℕ × Look) → slice_get A at ≡ Some c → slice_get B at ≡ Some k
    → is_same_text (drop at A) (drop at B)
    ≡ (is_same_character c k && is_same_text (drop (suc at) A) (drop (suc at) B))
unfolding is_same_text
same_at [] B at c k first second = absurd (cc first)
same_at (a ∷ A) [] at c k first second = absurd (cc second)
same_at (a ∷ A) (b ∷ B) zero c k first second =
    let one : a ≡ c = cc first in let two : b ≡ k = cc second in
    λ i. is_same_character (one i) (two i) && is_same_text A B
same_at (a ∷ A) (b ∷ B) (suc at) c k first second = same_at A B at c k first second

-- where all characters were compared
pub same_at_end : (A B : Text ℕ) (at : ℕ) → length A ≤ at → length A ≡ length B → is_same_text (drop at A) (drop at B) ≡ true
unfolding is_same_text
same_at_end [] [] zero high long = refl
same_at_end [] [] (suc at) high long = refl
same_at_end [] (b ∷ B) at high long = absurd (cc long)
same_at_end (a ∷ A) [] at high long = absurd (cc long)
same_at_end (a ∷ A) (b ∷ B) zero high long = absurd (omega (arith, high))
same_at_end (a ∷ A) (b ∷ B) (suc at) high long = same_at_end A B at (omega (arith, high)) (omega (arith, long))

-- texts of which one is longer
pub other_length : (A B : Text ℕ) → ¬ (length A ≡ length B) → is_same_text A B ≡ false
unfolding is_same_text
other_length [] [] other = absurd (other refl)
other_length [] (b ∷ B) other = refl
other_length (a ∷ A) [] other = refl
other_length (a ∷ A) (b ∷ B) other =
    ap (λ same. is_same_character a b && same) (other_length A B (λ is. other (ap suc is))) ∙ and_none (is_same_character a b)
  where
    and_none : (b : Bool) → (b && false) ≡ false
    and_none true = refl
    and_none false = refl

-- ---- what it means

same_character : (c k : ℕ × Look) → is_same_character c k ≡ true → c ≡ k
same_character c k is =
    let (byte, look) = and_parts _ _ is in
    let (font, rest) = and_parts _ _ look in
    let (colour, voff) = and_parts _ _ rest in
    λ i. (
      (unsigned_Decides c.0 k.0).0 byte i,
      record {
        font = (unsigned_Decides c.1.font k.1.font).0 font i;
        colour = (unsigned_Decides c.1.colour k.1.colour).0 colour i;
        voff = (signed_Decides c.1.voff k.1.voff).0 voff i;
      },
    )

itself : (c : ℕ × Look) → is_same_character c c ≡ true
itself c = λ i. (unsigned_Decides c.0 c.0).1 refl i && ((unsigned_Decides c.1.font c.1.font).1 refl i
    && ((unsigned_Decides c.1.colour c.1.colour).1 refl i && (signed_Decides c.1.voff c.1.voff).1 refl i))

pub same_is : (A B : Text ℕ) → is_same_text A B ≡ true → A ≡ B
unfolding is_same_text
same_is [] [] is = refl
same_is [] (b ∷ B) is = absurd (cc is)
same_is (a ∷ A) [] is = absurd (cc is)
same_is (a ∷ A) (b ∷ B) is =
    let (first, rest) = and_parts _ _ is in
    λ i. same_character a b first i ∷ same_is A B rest i

same_itself : (A : Text ℕ) → is_same_text A A ≡ true
unfolding is_same_text
same_itself [] = refl
same_itself (a ∷ A) = λ i. itself a i && same_itself A i

pub is_same : (A B : Text ℕ) → A ≡ B → is_same_text A B ≡ true
is_same A B is = sym (ap (is_same_text A) is) ∙ same_itself A

-- ---- stretch by stretch

-- two texts begin with as many characters
same_fronts : (P Q X Y : Text ℕ) → length P ≡ length Q
    → is_same_text (P ++ X) (Q ++ Y) ≡ (is_same_text P Q && is_same_text X Y)
unfolding is_same_text
same_fronts [] [] X Y long = refl
same_fronts [] (q ∷ Q) X Y long = absurd (cc long)
same_fronts (p ∷ P) [] X Y long = absurd (cc long)
same_fronts (p ∷ P) (q ∷ Q) X Y long =
    ap (λ b. is_same_character p q && b) (same_fronts P Q X Y (omega (arith, long)))
    ∙ sym (and_assoc (is_same_character p q) (is_same_text P Q) (is_same_text X Y))
  where
    and_assoc : (a b c : Bool) → ((a && b) && c) ≡ (a && (b && c))
    and_assoc true b c = refl
    and_assoc false b c = refl

same_byte : (n : ℕ) → (n == n) ≡ true
same_byte n = (unsigned_Decides n n).1 refl

-- the same characters, each in its look
pub same_run : (characters : List ℕ) (off n : ℕ) (one other : Look) → 0 < n
    → is_same_text (contents characters (run off n one)) (contents characters (run off n other)) ≡ looks_alike one other
unfolding is_same_text
same_run characters off zero one other some = absurd (omega (arith, some))
same_run characters off (suc zero) one other some =
    (λ i. (same_byte (slice_index characters off) i && looks_alike one other) && true) ∙ and_true (looks_alike one other)
  where
    and_true : (b : Bool) → (b && true) ≡ b
    and_true true = refl
    and_true false = refl
same_run characters off (suc (suc n)) one other some =
    (λ i. (same_byte (slice_index characters off) i && looks_alike one other)
    && same_run characters (suc off) (suc n) one other (omega arith) i)
    ∙ and_itself (looks_alike one other)
  where
    and_itself : (b : Bool) → (b && b) ≡ b
    and_itself true = refl
    and_itself false = refl

-- a character of a stretch
run_got : (off n at : ℕ) (look : Look) → at < n → slice_get (run off n look) at ≡ Some (off + at, look)
run_got off zero at look low = absurd (omega (arith, low))
run_got off (suc n) zero look low = let e : off ≡ off + 0 = omega arith in λ i. Some (e i, look)
run_got off (suc n) (suc at) look low =
    let e : suc off + at ≡ off + suc at = omega arith in
    run_got (suc off) n at look (omega (arith, low)) ∙ (λ i. Some (e i, look))

stretch_got : (characters : List ℕ) (off n at : ℕ) (look : Look) → at < n
    → slice_get (contents characters (run off n look)) at ≡ Some (slice_index characters (off + at), look)
stretch_got characters off n at look low =
    slice_get-map (λ (c : ℕ × Look). (slice_index characters c.0, c.1)) (run off n look) at
    ∙ ap (option_map (λ (c : ℕ × Look). (slice_index characters c.0, c.1))) (run_got off n at look low)

stretch_long : (characters : List ℕ) (off n : ℕ) (look : Look) → length (contents characters (run off n look)) ≡ n
stretch_long characters off n look = length-map (run off n look) _ ∙ length-run off n look

-- all characters of two stretches were compared
pub stretches_end : (characters : List ℕ) (one other n at : ℕ) (look looks : Look) → n ≤ at
    → is_same_text (drop at (contents characters (run one n look))) (drop at (contents characters (run other n looks)))
    ≡ true
stretches_end characters one other n at look looks high =
    let first = stretch_long characters one n look in let second = stretch_long characters other n looks in
    same_at_end _ _ at (omega (arith, first, high)) (omega (arith, first, second))

-- those at a place of two stretches
pub stretches_at : (characters : List ℕ) (one other n at : ℕ) (look looks : Look) (byte beside : ℕ) → at < n
    → byte ≡ slice_index characters (one + at) → beside ≡ slice_index characters (other + at)
    → is_same_text (drop at (contents characters (run one n look))) (drop at (contents characters (run other n looks)))
    ≡ (is_same_character (byte, look) (beside, looks)
    && is_same_text (drop (at + 1) (contents characters (run one n look)))
    (drop (at + 1) (contents characters (run other n looks))))
stretches_at characters one other n at look looks byte beside low is beside_is =
    let e : suc at ≡ at + 1 = omega arith in
    same_at _ _ at (byte, look) (beside, looks)
    (stretch_got characters one n at look low ∙ (λ i. Some (sym is i, look)))
    (stretch_got characters other n at looks low ∙ (λ i. Some (sym beside_is i, looks)))
    ∙ ap (λ k. is_same_character (byte, look) (beside, looks)
    && is_same_text (drop k (contents characters (run one n look))) (drop k (contents characters (run other n looks)))) e

-- ---- pieces

-- the first characters of a text, and those behind them
stretch_within : (long off n : ℕ) (look : Look) (more : Text ℕ) → 0 < n → AreWithin long (run off n look ++ more)
    → off + n ≤ long
stretch_within long off zero look more some within = absurd (omega (arith, some))
stretch_within long off (suc zero) look more some within =
    let first : off < long = All-head (λ (c : ℕ × Look). c.0 < long) (off, look) more within in omega (arith, first)
stretch_within long off (suc (suc n)) look more some within =
    let later : suc off + suc n ≤ long = stretch_within long (suc off) (suc n) look more (omega arith)
    (All-tail (λ (c : ℕ × Look). c.0 < long) (off, look) (run (suc off) (suc n) look ++ more) within) in
    omega (arith, later)

pub rest_within : (long off n : ℕ) (look : Look) (more : Text ℕ) → AreWithin long (run off n look ++ more) → AreWithin long more
rest_within long off zero look more within = within
rest_within long off (suc n) look more within = rest_within long (suc off) n look more
    (All-tail (λ (c : ℕ × Look). c.0 < long) (off, look) (run (suc off) n look ++ more) within)

-- a piece is its first characters and the others
pub cut_stretch : (off n len : ℕ) (look : Look) (more : Text ℕ) → n ≤ len
    → run off len look ++ more ≡ run off n look ++ (run (off + n) (len - n) look ++ more)
cut_stretch off n len look more within =
    let e : len ≡ n + (len - n) = omega (arith, within) in
    ap (λ k. run off k look ++ more) e ∙ ap (λ (t : Text ℕ). t ++ more) (run-append off n (len - n) look)
    ∙ append_assoc (run off n look) (run (off + n) (len - n) look) more

pub piece_within : (long off n len : ℕ) (look : Look) (more : Text ℕ) → 0 < n → n ≤ len
    → AreWithin long (run off len look ++ more) → off + n ≤ long
piece_within long off n len look more some low within =
    stretch_within long off n look (run (off + n) (len - n) look ++ more) some
    (subst (AreWithin long) (cut_stretch off n len look more low) within)

-- a text is shorter behind its first characters
pub shorter : (off n : ℕ) (look : Look) (now rest : Text ℕ) → 0 < n → now ≡ run off n look ++ rest → length rest < length now
shorter off n look now rest some first =
    omega (arith, some, ap length first, length-append (run off n look) rest, length-run off n look)

-- a text of a piece without characters, behind which there is nothing
pub at_end : (off len : ℕ) (look : Look) (more : Text ℕ) → len ≡ 0 → (len ≡ 0 → more ≡ []) → run off len look ++ more ≡ []
at_end off len look more none ends = (λ i. run off (none i) look ++ more) ∙ ends none

-- what two texts have behind stretches of one length
pub behind_stretches : (characters : List ℕ) (one other n : ℕ) (look looks : Look) (now before rest others : Text ℕ)
    → now ≡ run one n look ++ rest → before ≡ run other n looks ++ others
    → is_same_text (contents characters now) (contents characters before)
    ≡ (is_same_text (contents characters (run one n look)) (contents characters (run other n looks))
    && is_same_text (contents characters rest) (contents characters others))
behind_stretches characters one other n look looks now before rest others first second =
    let f : ℕ × Look → ℕ × Look = λ c. (slice_index characters c.0, c.1) in
    (λ i. is_same_text (contents characters (first i)) (contents characters (second i)))
    ∙ (λ i. is_same_text (map-append f (run one n look) rest i) (map-append f (run other n looks) others i))
    ∙ same_fronts _ _ _ _ (stretch_long characters one n look ∙ sym (stretch_long characters other n looks))

-- a text that is at its end
pub same_none : (characters : List ℕ) (now : Text ℕ) (len off : ℕ) (look : Look) (more : Text ℕ) → now ≡ []
    → (len ≡ 0 → more ≡ [])
    → is_same_text (contents characters now) (contents characters (run off len look ++ more)) ≡ (len == 0)
unfolding is_same_text
same_none characters now zero off look more none ends =
    λ i. is_same_text (contents characters (none i)) (contents characters (ends refl i))
same_none characters now (suc len) off look more none ends =
    let other : (suc len == 0) ≡ false = grind (arith, nat_tests) in
    ap (λ t. is_same_text (contents characters t) (contents characters (run off (suc len) look ++ more))) none ∙ sym other

-- and one that is not, beside one that is
pub other_none : (characters : List ℕ) (before : Text ℕ) (len off : ℕ) (look : Look) (more : Text ℕ) → 0 < len
    → before ≡ [] → is_same_text (contents characters (run off len look ++ more)) (contents characters before) ≡ false
unfolding is_same_text
other_none characters before zero off look more some none = absurd (omega (arith, some))
other_none characters before (suc len) off look more some none =
    ap (λ t. is_same_text (contents characters (run off (suc len) look ++ more)) (contents characters t)) none

-- ---- as they are read

as_long : (characters : List ℕ) (text : Text ℕ) → length (contents characters text) ≡ length text
as_long characters text = length-map text _

pub read_other : (characters : List ℕ) (A B : Text ℕ) (n m : ℕ) → n ≡ length A → m ≡ length B → ¬ (n ≡ m)
    → false ≡ is_same_text (contents characters A) (contents characters B)
read_other characters A B n m count counts other =
    let one = as_long characters A in let two = as_long characters B in
    sym (other_length _ _ (λ is. other (let e : n ≡ m = omega (arith, one, two, is, count, counts) in e)))

-- the second read fails
pub failed : {S : Type 0} (A B : Type 0) (s : Ghosts S) (ground_through : (a b c : S) → s.same_ground a b → s.same_ground b c
    → s.same_ground a c) (start now mid later : S) (fault : Fault)
    → OnlyReads s.characters s.failures s.honest s.same_ground start now → s.failures now ≡ s.failures start
    → OnlyReads s.characters s.failures s.honest s.same_ground now mid → s.failures mid ≡ s.failures now
    → OnlyReads s.characters s.failures s.honest s.same_ground mid later
    → CountsFault {T = A} {E = Fault} (Err fault) (s.failures mid) (s.failures later)
    → ReadsOrFails s {A = B} (Err fault) start later
failed A B s ground_through start now mid later fault was calm reads still last cause = record {
  reads = read_on s.characters s.failures s.honest s.same_ground ground_through start mid later
      (read_on s.characters s.failures s.honest s.same_ground ground_through start now mid was reads) last;
  cause = subst (λ n. CountsFault {T = A} {E = Fault} (Err fault) n (s.failures later)) (still ∙ calm) cause;
}
