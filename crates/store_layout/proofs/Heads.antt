-- A head, read from its numbers.
use Rattle.std.specs.Prelude.{◌≡◌, ℕ, ◌==◌, true, false, if◌then◌else◌, List, take, drop}
use Rattle.std.specs.Int.{w32, w64, from_be_bytes}
use Rattle.std.proofs.Common.{refl, sym, ◌∙◌, ap}
use Rattle.std.proofs.lemmas.Bool.{eqb-true}
use Rattle.store_layout.specs.declared.head.Head.{Head}
use Rattle.store_layout.specs.declared.layout.TheConstants.{FIRST_LAYOUT}
use Rattle.store_layout.specs.Layout.{head_of}

-- the first version has area 0, and the others the one that they name
area_read : (version area n : ℕ) → n ≡ area → (version ≡ FIRST_LAYOUT → area ≡ 0)
    → (if version == FIRST_LAYOUT then 0 else n) ≡ area
area_read version area n named first = (elim (version == FIRST_LAYOUT) as
    (λ b. (version == FIRST_LAYOUT) ≡ b → (let x : ℕ = if b then 0 else n in x) ≡ area) [
      | true ↦ λ is. sym (first (eqb-true version FIRST_LAYOUT is))
      | false ↦ λ is. named
    ]) refl

pub head_read : (bytes : List ℕ) (h : Head) → from_be_bytes w32 (take 4 bytes) ≡ h.version
    → from_be_bytes w32 (take 4 (drop 4 bytes)) ≡ h.epoch → from_be_bytes w32 (take 4 (drop 8 bytes)) ≡ h.written
    → from_be_bytes w32 (take 4 (drop 12 bytes)) ≡ h.extent → from_be_bytes w32 (take 4 (drop 16 bytes)) ≡ h.area
    → from_be_bytes w32 (take 4 (drop 20 bytes)) ≡ h.past.next
    → from_be_bytes w64 (take 8 (drop 24 bytes)) ≡ h.past.before
    → (h.version ≡ FIRST_LAYOUT → h.area ≡ 0) → head_of bytes ≡ h
unfolding head_of
head_read bytes h version epoch written extent area next before first = λ i. record {
  version = version i;
  epoch = epoch i;
  written = written i;
  extent = extent i;
  area = (ap (λ v. if v == FIRST_LAYOUT then 0 else from_be_bytes w32 (take 4 (drop 16 bytes))) version
      ∙ area_read h.version h.area (from_be_bytes w32 (take 4 (drop 16 bytes))) area first) i;
  past = record { next = next i; before = before i };
}
