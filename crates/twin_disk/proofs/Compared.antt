-- Two files of which more and more bytes were compared.
use Rattle.std.proofs.Common.{◌≡◌, true, ℕ, ◌+◌, ◌*◌, ◌-◌, ◌<◌, sym, ◌∙◌, arith, inl, inr, subst}
use Rattle.std.proofs.lemmas.Bool.{cases_lt}
use Rattle.sector_disk.specs.declared.host_file.HostFile.{Ghosts}
use Rattle.sector_disk.specs.Trail.{Nowhere}
use Rattle.sector_disk.specs.FileTrail.{FileTrail, IsFileConfined, current}
use Rattle.sector_disk.specs.FileSectors.{sectors_in}
use Rattle.sector_disk.specs.declared.disk.TheConstants.{SECTOR_BYTES}
use Rattle.sector_disk.proofs.FileBytes.{confined_stays, confined_joined, still_reads}
use Rattle.sector_disk.proofs.FileViews.{bytes_in_same}
use Rattle.twin_disk.specs.Files.{AgreeFrom, AgreeUpTo}
use Rattle.twin_disk.specs.declared.files.TheConstants.{RUN_BYTES}

module _ {F G : Type 0} (f : Ghosts F) (g : Ghosts G) where
  -- so many runs of bytes were found to be the same
  pub record AreCompared (n : ℕ) (x : F) (y : G) (x1 : F) (y1 : G) : Type 0 where
    pub one : IsFileConfined f.honest f.trail Nowhere x x1
    pub other : IsFileConfined g.honest g.trail Nowhere y y1
    pub one_intact : f.intact x1 ≡ true
    pub other_intact : g.intact y1 ≡ true
    pub same : f.honest x1 → g.honest y1 → AgreeUpTo (n * RUN_BYTES) (f.trail x1) (g.trail y1)

  pub none_compared : (x : F) (y : G) → f.intact x ≡ true → g.intact y ≡ true → AreCompared 0 x y x y
  none_compared x y intact intact' = record {
    one = confined_stays f.honest f.trail Nowhere x;
    other = confined_stays g.honest g.trail Nowhere y;
    one_intact = intact;
    other_intact = intact';
    same = λ _ _ i low. absurd (omega (arith, low));
  }

  module _ {x1 x2 : F} {y1 y2 : G} (from : IsFileConfined f.honest f.trail Nowhere x1 x2)
      (to : IsFileConfined g.honest g.trail Nowhere y1 y2) (so_far : ℕ)
      (same : f.honest x1 → g.honest y1 → AgreeUpTo so_far (f.trail x1) (g.trail y1)) (n : ℕ)
      (more : f.honest x2 → g.honest y2 → AgreeFrom so_far n (f.trail x2) (g.trail y2)) where
    -- more bytes that are the same
    pub agree_further : f.honest x2 → g.honest y2 → AgreeUpTo (so_far + n) (f.trail x2) (g.trail y2)
    agree_further h h' i low =
        let h1 = from.already h in
        let h1' = to.already h' in
        elim (cases_lt i so_far) [
          | inl before ↦ still_reads (f.trail x1) (f.trail x2) (from.moments h1) i (λ none. none)
              ∙ same h1 h1' i before
              ∙ sym (still_reads (g.trail y1) (g.trail y2) (to.moments h1') i (λ none. none))
          | inr from_there ↦ subst (λ k. (current (f.trail x2)).reads k ≡ (current (g.trail y2)).reads k)
              (let here : so_far + (i - so_far) ≡ i = omega (arith, from_there) in here)
              (more h h' (i - so_far) (omega (arith, low, from_there)))
        ]

  pub one_compared : {n : ℕ} {x x1 x2 : F} {y y1 y2 : G} → AreCompared n x y x1 y1
      → IsFileConfined f.honest f.trail Nowhere x1 x2 × (f.intact x2 ≡ true)
      → IsFileConfined g.honest g.trail Nowhere y1 y2 × (g.intact y2 ≡ true)
      → (f.honest x2 → g.honest y2 → AgreeFrom (n * RUN_BYTES) RUN_BYTES (f.trail x2) (g.trail y2))
      → AreCompared (n + 1) x y x2 y2
  one_compared {n = n} {x2 = x2} {y2 = y2} was from to more = record {
    one = confined_joined f.honest f.trail was.one from.0;
    other = confined_joined g.honest g.trail was.other to.0;
    one_intact = from.1;
    other_intact = to.1;
    same = λ h h'. subst (λ end. AgreeUpTo end (f.trail x2) (g.trail y2))
        (let long : n * RUN_BYTES + RUN_BYTES ≡ (n + 1) * RUN_BYTES = omega arith in long)
        (agree_further from.0 to.0 (n * RUN_BYTES) was.same RUN_BYTES more h h');
  }

  -- and the rest behind the last run
  pub all_compared : {n : ℕ} {x x1 x2 : F} {y y1 y2 : G} → AreCompared n x y x1 y1
      → IsFileConfined f.honest f.trail Nowhere x1 x2 × (f.intact x2 ≡ true)
      → IsFileConfined g.honest g.trail Nowhere y1 y2 × (g.intact y2 ≡ true)
      → (at rest end : ℕ) → (f.honest x2 → g.honest y2 → AgreeFrom at rest (f.trail x2) (g.trail y2))
      → at ≡ n * RUN_BYTES → at + rest ≡ end → f.honest x2 → g.honest y2 → AgreeUpTo end (f.trail x2) (g.trail y2)
  all_compared {x1 = x1} {x2 = x2} {y1 = y1} {y2 = y2} was from to at rest end more here all h h' =
      subst (λ (k : ℕ). AgreeUpTo k (f.trail x2) (g.trail y2)) all
      (agree_further from.0 to.0 at (subst (λ (k : ℕ). f.honest x1 → g.honest y1 → AgreeUpTo k (f.trail x1) (g.trail y1))
      (sym here) was.same) rest more h h')

-- and so each of their first sectors
pub sectors_agree : (sectors : ℕ) (one other : FileTrail) → AgreeUpTo (SECTOR_BYTES * sectors) one other → (n : ℕ)
    → n < sectors → sectors_in (current one).reads n ≡ sectors_in (current other).reads n
sectors_agree sectors one other same n low =
    bytes_in_same (current other).reads (current one).reads (SECTOR_BYTES * n) SECTOR_BYTES
    (λ i above below. same i (let within : i < SECTOR_BYTES * sectors = grind (arith, below, low) in within))
