-- Marks of two legs, and why they are honest.
use Rattle.std.proofs.Common.{◌≡◌, ◌≢◌, ◌==◌, ◌⊎◌, ◌∷◌, inl, inr, ℕ, suc, ◌<◌, ◌≤◌, ◌+◌, List, Bool, true, false, if◌then◌else◌, refl, sym, ◌∙◌, ap, subst, arith, length}
use Rattle.std.proofs.lemmas.Bool.{cases_eq, cases_lt}
use Rattle.std.proofs.lemmas.Bool.Decides.{nat_tests}
use Rattle.sector_disk.specs.declared.disk.Disk.{Ghosts}
use Rattle.sector_disk.specs.Trail.{Content, Moment, now, IsCrashImage, Nowhere, Only}
use Rattle.sector_disk.specs.Confined.{IsConfined}
use Rattle.sector_disk.proofs.Confinement.{joined, stays_put}
use Rattle.sector_disk.proofs.Touching.{read_is_an_image, still_reads, still_settled}
use Rattle.twin_disk.specs.declared.twin.TwinDisk.{TwinDisk}
use Rattle.twin_disk.specs.Bounded.{within}
use Rattle.twin_disk.specs.Flags.{IsOpen, says_closed}
use Rattle.twin_disk.specs.Copying.{AreSettled, HoldSame, ReadSame}
use Rattle.twin_disk.specs.Twin.{pending_first}
use Rattle.twin_disk.specs.Survival.{first_leg, second_leg, twin_size, twin_moments, HasBothLegs, HasHonestLegs}
use Rattle.twin_disk.specs.Choosing.{FirstSince, GoesOn, SecondSince}
use Rattle.twin_disk.specs.Closing.{HasHonestMark, IsClosed, IsMarked, KeepsMark, MarksStayHonest}
use Rattle.twin_disk.proofs.Chosen.{bool_two, goes_nowhere}
use Rattle.twin_disk.proofs.Moments.{now_is}
use Rattle.twin_disk.proofs.Seen.{bounded_at, settled_at}

-- an image but for one sector
abbrev but : Content → ℕ → List ℕ → Content
but image flag bytes = λ k. if k == flag then bytes else image k

but_here : (image : Content) (flag : ℕ) (bytes : List ℕ) → but image flag bytes flag ≡ bytes
but_here image flag bytes = let is : (flag == flag) ≡ true = grind (arith, nat_tests) in ap (λ (b : Bool). if b then bytes else image flag) is

but_there : (image : Content) (flag : ℕ) (bytes : List ℕ) (n : ℕ) → n ≢ flag → but image flag bytes n ≡ image n
but_there image flag bytes n other =
    let is : (n == flag) ≡ false = grind (arith, nat_tests, other) in ap (λ (b : Bool). if b then bytes else image n) is

but_is_image : (m : Moment) (image : Content) (flag : ℕ) (bytes : List ℕ) → (m.pending flag ≡ false → bytes ≡ m.reads flag)
    → IsCrashImage m image → IsCrashImage m (but image flag bytes)
but_is_image m image flag bytes same is n settled = elim (cases_eq n flag) [
  | inl here ↦ subst (λ k. but image flag bytes k ≡ m.reads k) (sym here)
      (but_here image flag bytes ∙ same (subst (λ k. m.pending k ≡ false) here settled))
  | inr there ↦ but_there image flag bytes n there ∙ is n settled
]

module _ (flag : ℕ) (x y : Moment) (marks : HasHonestMark flag x y) (closed : says_closed (x.reads (flag + 1)) ≡ true)
    (alike : x.reads (flag + 1) ≡ y.reads (flag + 1)) where
  abbrev mark : ℕ
  mark = flag + 1

  -- whatever a crash leaves of both is the same before the flags
  images_same : (i j : Content) → IsCrashImage x i → IsCrashImage y j → (n : ℕ) → n < flag → i n ≡ j n
  images_same i j is_i is_j n small =
      let other : n ≢ mark = λ is. omega (arith, small, is) in
      let i_mark = but_here i mark (x.reads mark) in
      let j_mark = but_here j mark (y.reads mark) in
      sym (but_there i mark (x.reads mark) n other)
      ∙ marks (but i mark (x.reads mark)) (but j mark (y.reads mark))
      (but_is_image x i mark (x.reads mark) (λ _. refl) is_i) (but_is_image y j mark (y.reads mark) (λ _. refl) is_j)
      (ap says_closed i_mark ∙ closed) (i_mark ∙ alike ∙ sym j_mark) n small
      ∙ but_there j mark (y.reads mark) n other

  same_reads : (n : ℕ) → n < flag → x.reads n ≡ y.reads n
  same_reads n small = images_same x.reads y.reads (read_is_an_image x) (read_is_an_image y) n small

  no_longer : (bytes : List ℕ) → ¬ (0 ∷ bytes ≡ bytes)
  no_longer bytes is = let long : suc (length bytes) ≡ length bytes = ap length is in omega (arith, long)

  first_settled : (n : ℕ) → n < flag → x.pending n ≡ false
  first_settled n small = elim (bool_two (x.pending n)) [
    | inl pending ↦
        let longer = 0 ∷ x.reads n in
        let image = but_is_image x x.reads n longer (λ (settled : x.pending n ≡ false). absurd cc) (read_is_an_image x) in
        absurd (no_longer (x.reads n) (sym (but_here x.reads n longer)
        ∙ images_same (but x.reads n longer) y.reads image (read_is_an_image y) n small ∙ sym (same_reads n small)))
    | inr settled ↦ settled
  ]

  second_settled : (n : ℕ) → n < flag → y.pending n ≡ false
  second_settled n small = elim (bool_two (y.pending n)) [
    | inl pending ↦
        let longer = 0 ∷ y.reads n in
        let image = but_is_image y y.reads n longer (λ (settled : y.pending n ≡ false). absurd cc) (read_is_an_image y) in
        absurd (no_longer (y.reads n) (sym (but_here y.reads n longer)
        ∙ sym (images_same x.reads (but y.reads n longer) (read_is_an_image x) image n small) ∙ same_reads n small))
    | inr settled ↦ settled
  ]

module _ {A B : Type 0} (a : Ghosts A) (b : Ghosts B) where
  -- two disks that hold the same, of which nothing is touched before the flags
  pub same_marked : (flag : ℕ) (area : ℕ → Type 0) → ((k : ℕ) → k < flag → ¬ area k) → (x x1 : A) (y y1 : B)
      → HoldSame a b flag x y → IsConfined a.size a.honest a.trail area x x1
      → IsConfined b.size b.honest b.trail area y y1 → KeepsMark a b flag x x1 y y1
  same_marked flag area out x x1 y y1 held from to h h' u v low high low' high' i j is is' closed alike n small =
      let first = from.moments h in
      let second = to.moments h' in
      is n (first.settled u low high n (out n small) (held.settled h h' n small).0)
      ∙ first.reads u low high n (out n small)
      ∙ held.same h h' n small
      ∙ sym (second.reads v low' high' n (out n small))
      ∙ sym (is' n (second.settled v low' high' n (out n small) (held.settled h h' n small).1))

  -- the same of legs under other names
  pub renamed_marked : (flag : ℕ) (x x1 x2 : A) (y y1 y2 : B) → (x2 ≡ x1) × (y2 ≡ y1) → KeepsMark a b flag x x1 y y1
      → KeepsMark a b flag x x2 y y2
  renamed_marked flag x x1 x2 y y1 y2 are marks =
      subst (λ z. KeepsMark a b flag x z y y2) (sym are.0) (subst (λ z. KeepsMark a b flag x x1 y z) (sym are.1) marks)

  -- two disks that hold the same, of which nothing is touched
  pub hold_still : (flag : ℕ) (x x1 : A) (y y1 : B) → ReadSame a b flag x y → AreSettled a b flag x y
      → IsConfined a.size a.honest a.trail Nowhere x x1 → IsConfined b.size b.honest b.trail Nowhere y y1
      → HoldSame a b flag x1 y1
  hold_still flag x x1 y y1 same quiet from to = record {
    same = λ h h' k small.
        let h1 = from.already h in
        let h2 = to.already h' in
        still_reads (a.trail x) (a.trail x1) (from.moments h1) k (λ none. none) ∙ same h1 h2 k small
        ∙ sym (still_reads (b.trail y) (b.trail y1) (to.moments h2) k (λ none. none));
    settled = λ h h' k small.
        let h1 = from.already h in
        let h2 = to.already h' in
        let was = quiet h1 h2 k small in (
          still_settled (a.trail x) (a.trail x1) (from.moments h1) k (λ none. none) was.0,
          still_settled (b.trail y) (b.trail y1) (to.moments h2) k (λ none. none) was.1,
        );
  }

  -- two disks whose marks are honest, and say that they hold the same
  pub closed_same : (flag : ℕ) (x x1 : A) (y y1 : B)
      → (a.honest x → b.honest y → HasHonestMark flag (now (a.trail x)) (now (b.trail y)))
      → IsConfined a.size a.honest a.trail Nowhere x x1 → IsConfined b.size b.honest b.trail Nowhere y y1
      → (a.honest x → says_closed ((now (a.trail x)).reads (flag + 1)) ≡ true)
      → (a.honest x → b.honest y → (now (b.trail y)).reads (flag + 1) ≡ (now (a.trail x)).reads (flag + 1))
      → HoldSame a b flag x1 y1
  closed_same flag x x1 y y1 marks from to closed alike = hold_still flag x x1 y y1
      (λ h h'. same_reads flag (now (a.trail x)) (now (b.trail y)) (marks h h') (closed h) (sym (alike h h')))
      (λ h h' k small. (
        first_settled flag (now (a.trail x)) (now (b.trail y)) (marks h h') (closed h) (sym (alike h h')) k small,
        second_settled flag (now (a.trail x)) (now (b.trail y)) (marks h h') (closed h) (sym (alike h h')) k small,
      ))
      from to

  -- the same, as it is found
  pub closed_found : (flag : ℕ) (x x1 x2 : A) (y y1 : B) (says : Bool) → says ≡ true
      → (a.honest x → b.honest y → HasHonestMark flag (now (a.trail x)) (now (b.trail y)))
      → IsConfined a.size a.honest a.trail Nowhere x x1 → IsConfined a.size a.honest a.trail Nowhere x1 x2
      → IsConfined b.size b.honest b.trail Nowhere y y1
      → (a.honest x → says ≡ says_closed ((now (a.trail x)).reads (flag + 1)))
      → (a.honest x1 → b.honest y → (now (b.trail y)).reads (flag + 1) ≡ (now (a.trail x1)).reads (flag + 1))
      → HoldSame a b flag x2 y1
  closed_found flag x x1 x2 y y1 says so marks from from2 to closed alike = closed_same flag x x2 y y1 marks
      (joined a.size a.honest a.trail from from2) to (λ h. sym (closed h) ∙ so)
      (λ h h'. alike (from.still h) h' ∙ still_reads (a.trail x) (a.trail x1) (from.moments h) (flag + 1) (λ none. none))

module _ {A B : Type 0} (a : Ghosts A) (b : Ghosts B) (d : TwinDisk A B a b) (whole : HasBothLegs d)
    (quiet : HasHonestLegs d → (n : ℕ) → (now (twin_moments d)).pending n ≡ false) where
  -- both legs of a settled twin hold the same
  pub whole_held : HoldSame a b (twin_size d) (first_leg d) (second_leg d)
  whole_held = record {
    same = λ h h' k small.
        let same = (d.agree (record { first = h; second = h' })).same whole.1 whole.0 in
        sym (bounded_at (twin_size d) k (now (a.trail (first_leg d))).reads small)
        ∙ ap (λ f. f k) same ∙ bounded_at (twin_size d) k (now (b.trail (second_leg d))).reads small;
    settled = λ h h' n small.
        let both : HasHonestLegs d = record { first = h; second = h' } in
        let agrees = d.agree both in
        let none = ap (λ m. m.pending n) (sym (now_is (within (twin_size d) a) (within (twin_size d) b)
        (pending_first (within (twin_size d) a) (within (twin_size d) b) d.start.items) d.calls.items d.legs)) ∙ quiet both n in (
          sym (settled_at (twin_size d) n (now (a.trail (first_leg d))).pending small)
              ∙ agrees.first (λ is. let is_both = whole.0 in cc) n none,
          sym (settled_at (twin_size d) n (now (b.trail (second_leg d))).pending small)
              ∙ agrees.second (λ is. let is_both = whole.0 in cc) n none,
        );
  }

-- the legs that were handed out, and were marked then
pub marked_legs : {A B : Type 0} (a : Ghosts A) (b : Ghosts B) (d : TwinDisk A B a b) → (legs : A × B)
    → legs ≡ (first_leg d, second_leg d) → (one : A) (other : B)
    → IsConfined a.size a.honest a.trail (Only (twin_size d + 1)) legs.0 one
    → IsConfined b.size b.honest b.trail (Only (twin_size d + 1)) legs.1 other
    → KeepsMark a b (twin_size d) legs.0 one legs.1 other → IsMarked d one other
marked_legs {A = A} {B = B} a b d legs are one other first second marks = record {
  first = subst (λ (p : A × B). IsConfined a.size a.honest a.trail (Only (twin_size d + 1)) p.0 one) are first;
  second = subst (λ (p : A × B). IsConfined b.size b.honest b.trail (Only (twin_size d + 1)) p.1 other) are second;
  marks = subst (λ (p : A × B). KeepsMark a b (twin_size d) p.0 one p.1 other) are marks;
}

-- the legs of a twin hold the same, under other names
pub named_legs : {A B : Type 0} (a : Ghosts A) (b : Ghosts B) (d : TwinDisk A B a b)
    → HoldSame a b (twin_size d) (first_leg d) (second_leg d) → (legs : A × B) → legs ≡ (first_leg d, second_leg d)
    → HoldSame a b (twin_size d) legs.0 legs.1
named_legs {A = A} {B = B} a b d held legs are =
    subst (λ (p : A × B). HoldSame a b (twin_size d) p.0 p.1) (sym are) held

-- an image of a leg whose mark is gone
open_image : (flag : ℕ) (m : Moment) (image : Content) → IsOpen (flag + 1) m → IsCrashImage m image
    → says_closed (image (flag + 1)) ≡ true → ⊥
open_image flag m image gone is closed =
    let not = ap says_closed (is (flag + 1) gone.settled) ∙ gone.says in cc

module _ {A B : Type 0} (a : Ghosts A) (b : Ghosts B) (old new : TwinDisk A B a b) (on : GoesOn old new)
    (h : HasHonestLegs old) where
  -- what was before the flags is the same, or one of the marks is gone
  honest_since : (u v : ℕ) → FirstSince old new u → SecondSince old new v
      → HasHonestMark (twin_size old) ((a.trail (first_leg new)).at u) ((b.trail (second_leg new)).at v)
  honest_since u v since_u since_v i j is_i is_j closed alike n small =
      elim ((on.first_opened h.first).each u since_u.0 since_u.1) [
        | inl gone ↦ absurd (open_image (twin_size old) ((a.trail (first_leg new)).at u) i gone is_i closed)
        | inr one ↦ elim ((on.second_opened h.second).each v since_v.0 since_v.1) [
          | inl gone ↦ absurd (open_image (twin_size old) ((b.trail (second_leg new)).at v) j gone is_j
              (ap says_closed (sym alike) ∙ closed))
          | inr other ↦
              let held = old.held one.0 other.0 in
              let quiet = held.settled h.first h.second n small in
              is_i n (one.1.settled n small quiet.0) ∙ one.1.reads n small ∙ held.same h.first h.second n small
              ∙ sym (other.1.reads n small) ∙ sym (is_j n (other.1.settled n small quiet.1))
        ]
      ]

pub all_honest : {A B : Type 0} (a : Ghosts A) (b : Ghosts B) → MarksStayHonest a b
all_honest a b old new on h u v since_u since_v =
    subst (λ n. HasHonestMark n ((a.trail (first_leg new)).at u) ((b.trail (second_leg new)).at v)) (sym on.size)
    (honest_since a b old new on h u v since_u since_v)

module _ {A B : Type 0} (a : Ghosts A) (b : Ghosts B) (old last : TwinDisk A B a b) (on : GoesOn old last) where
  -- a twin whose legs are handed out after calls
  pub closed_plain : IsClosed old (first_leg last) (second_leg last)
  closed_plain = record {
    last = last;
    calls = on;
    first = stays_put a.size a.honest a.trail (Only (twin_size old + 1)) (first_leg last);
    second = stays_put b.size b.honest b.trail (Only (twin_size old + 1)) (second_leg last);
    marks = λ h h' u v low high low' high'.
        honest_since a b old last on (record { first = h; second = h' }) u v (low, high) (low', high');
  }

  module _ (shut : old.closed.first ≡ false) (shut' : old.closed.second ≡ false) (one : A) (other : B)
      (marked : IsMarked last one other) where
    -- at a moment of a leg before its mark was put it is as it was, and its mark was gone
    first_past : a.honest (first_leg old) → (u : ℕ) → (a.trail (first_leg old)).clock ≤ u
        → u ≤ (a.trail (first_leg last)).clock → IsOpen (twin_size old + 1) ((a.trail one).at u)
    first_past h u low early = elim ((on.first_opened h).each u low early) [
      | inl gone ↦ subst (IsOpen (twin_size old + 1)) (sym ((marked.first.moments (on.first_still h)).kept u early)) gone
      | inr still ↦ absurd (let is = still.0 in cc)
    ]

    second_past : b.honest (second_leg old) → (v : ℕ) → (b.trail (second_leg old)).clock ≤ v
        → v ≤ (b.trail (second_leg last)).clock → IsOpen (twin_size old + 1) ((b.trail other).at v)
    second_past h v low early = elim ((on.second_opened h).each v low early) [
      | inl gone ↦ subst (IsOpen (twin_size old + 1)) (sym ((marked.second.moments (on.second_still h)).kept v early)) gone
      | inr still ↦ absurd (let is = still.0 in cc)
    ]

    marks_kept : KeepsMark a b (twin_size old) (first_leg old) one (second_leg old) other
    marks_kept h h' u v low high low' high' i j is_i is_j closed alike n small =
        elim (cases_lt (a.trail (first_leg last)).clock u) [
          | inr early ↦ absurd (open_image (twin_size old) ((a.trail one).at u) i (first_past h u low early) is_i closed)
          | inl late ↦ elim (cases_lt (b.trail (second_leg last)).clock v) [
            | inr early ↦ absurd (open_image (twin_size old) ((b.trail other).at v) j (second_past h' v low' early) is_j
                (ap says_closed (sym alike) ∙ closed))
            | inl late' ↦ subst (λ k. KeepsMark a b k (first_leg last) one (second_leg last) other) on.size marked.marks
                (on.first_still h) (on.second_still h') u v (omega (arith, late)) high (omega (arith, late')) high' i j is_i is_j
                closed alike n small
          ]
        ]

    -- a twin whose legs are marked after calls
    pub closed_marked : IsClosed old one other
    closed_marked = record {
      last = last;
      calls = on;
      first = subst (λ n. IsConfined a.size a.honest a.trail (Only (n + 1)) (first_leg last) one) on.size marked.first;
      second = subst (λ n. IsConfined b.size b.honest b.trail (Only (n + 1)) (second_leg last) other) on.size marked.second;
      marks = marks_kept;
    }

  -- the legs that a twin hands out after calls, be they marked or not
  pub closed_any : old.closed.first ≡ false → old.closed.second ≡ false → (legs : A × B)
      → (legs ≡ (first_leg last, second_leg last)) ⊎ IsMarked last legs.0 legs.1 → IsClosed old legs.0 legs.1
  closed_any shut shut' legs (inl are) = subst (λ (p : A × B). IsClosed old p.0 p.1) (sym are) closed_plain
  closed_any shut shut' legs (inr marked) = closed_marked shut shut' legs.0 legs.1 marked

module _ {A B : Type 0} (a : Ghosts A) (b : Ghosts B) (d : TwinDisk A B a b) where
  -- no call
  stays_there : GoesOn d d
  stays_there = goes_nowhere a b d d refl refl (λ lost. lost) refl refl refl
      (λ h. record { later = omega arith; kept = λ t le. refl })

  -- a twin whose legs are handed out at once
  pub unwritten_plain : (legs : A × B) → legs ≡ (first_leg d, second_leg d) → IsClosed d legs.0 legs.1
  unwritten_plain legs are = subst (λ (p : A × B). IsClosed d p.0 p.1) (sym are) (closed_plain a b d d stays_there)

  pub unwritten_marked : (one : A) (other : B) → IsMarked d one other → IsClosed d one other
  unwritten_marked one other marked = record {
    last = d;
    calls = stays_there;
    first = marked.first;
    second = marked.second;
    marks = marked.marks;
  }
