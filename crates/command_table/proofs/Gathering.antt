-- What a loop keeps that gathers the names of a list.
use Rattle.std.specs.Prelude.{◌≡◌, ◌≢◌, ℕ, zero, suc, ◌+◌, ◌-◌, ◌<◌, ◌≤◌, ◌==◌, Bool, true, false, List, [], ◌∷◌}
use Rattle.std.specs.Prelude.{◌++◌, length, Option, Some, None}
use Rattle.std.proofs.Common.{refl, sym, ap, ◌∙◌, arith, append_assoc, length-append}
use Rattle.std.proofs.lemmas.Bool.Decides.{nat_tests}
use Rattle.std.proofs.lemmas.List.{append-nil}
use Rattle.char_file.specs.Source.{OnlyReads}
use Rattle.char_file.proofs.Reading.{no_read, read_on}
use Rattle.piece_ring.specs.Text.{Text, AreWithin}
use Rattle.readers_scanners.specs.Form.{symbol}
use Rattle.readers_scanners.specs.Reading.{bytes_of_text, Reading}
use Rattle.readers_scanners.specs.declared.symbol.Symbol.{Symbol}
use Rattle.command_table.specs.Parameters.{name_in, names_on}

names_on_more : (bs : List ℕ) (n : ℕ) (found : Symbol × ℕ) (name : List ℕ) → 0 < n → name_in found.0 ≡ Some name
    → names_on bs n found ≡ name ∷ names_on bs (n - 1) (symbol bs found.1)
unfolding names_on
names_on_more bs zero found name some is = absurd (omega (arith, some))
names_on_more bs (suc n) found name some is =
    let one : suc n - 1 ≡ n = omega arith in
    let follow : Option (List ℕ)
    → List (List ℕ) = λ o. elim o [ Some name ↦ name ∷ names_on bs n (symbol bs found.1) | None ↦ [] ] in
    ap follow is ∙ ap (λ k. name ∷ names_on bs k (symbol bs found.1)) (sym one)

names_on_none : (bs : List ℕ) (n : ℕ) (found : Symbol × ℕ) → name_in found.0 ≡ None → names_on bs n found ≡ []
unfolding names_on
names_on_none bs zero found is = refl
names_on_none bs (suc n) found is =
    let follow : Option (List ℕ)
    → List (List ℕ) = λ o. elim o [ Some name ↦ name ∷ names_on bs n (symbol bs found.1) | None ↦ [] ] in
    ap follow is

names_on_zero : (bs : List ℕ) (found : Symbol × ℕ) → names_on bs 0 found ≡ []
unfolding names_on
names_on_zero bs found = refl

pub has_room : (most : ℕ) (names : List (List ℕ)) (full : Bool) → full ≡ (length names == most) → full ≡ false
    → length names ≢ most
has_room most names full is open_yet e = let not_so : (length names == most) ≡ false = sym is ∙ open_yet in
    grind (arith, nat_tests)

pub is_filled : (most : ℕ) (names : List (List ℕ)) (full : Bool) → full ≡ (length names == most) → full ≡ true
    → length names ≡ most
is_filled most names full is closed = let so : (length names == most) ≡ true = sym is ∙ closed in
    grind (arith, nat_tests)

module _ {S : Type 0} (characters : S → List ℕ) (failures : S → ℕ) (honest : S → Type 0) (same_ground : S → S
    → Type 0) where
  -- Since the state `start` nothing failed, and what was gathered and what follows the scanner are all the names.
  pub record IsGathering (most : ℕ) (start now : S) (text : Text ℕ) (first : Symbol × ℕ) (scanner : Reading)
      (names : List (List ℕ)) : Type 0 where
    pub same : scanner.text ≡ text
    pub within : scanner.position ≤ length text
    pub reads : OnlyReads characters failures honest same_ground start now
    pub calm : failures now ≡ failures start
    pub fits : length names ≤ most
    pub exact : honest start
        → names_on (bytes_of_text (characters start) text) most first ≡ names ++ names_on (bytes_of_text (characters start) text)
        (most - length names) (symbol (bytes_of_text (characters start) text) scanner.position)

  module _ (ground_self : (s : S) → same_ground s s) (ground_through : (a b c : S) → same_ground a b → same_ground b c
      → same_ground a c) where
    -- with the first name
    pub begun : (most : ℕ) (start : S) (text : Text ℕ) (first : Symbol) (scanner : Reading)
        (none names : List (List ℕ)) (name : List ℕ) → 0 < most → scanner.text ≡ text
        → scanner.position ≤ length scanner.text
        → Some name ≡ name_in first → none ≡ [] → names ≡ none ++ name ∷ []
        → IsGathering most start start text (first, scanner.position) scanner names
    begun most start text first scanner none names name some t within is empty made =
        let one : names ≡ name ∷ [] = made ∙ ap (λ l. l ++ name ∷ []) empty in
        let size : length names ≡ 1 = ap length one in record {
          same = t;
          within = omega (arith, within, ap length t);
          reads = no_read characters failures honest same_ground ground_self start;
          calm = refl;
          fits = omega (arith, some, size);
          exact = λ h. names_on_more (bytes_of_text (characters start) text) most (first, scanner.position) name some (sym is)
              ∙ (λ k. sym one k ++ names_on (bytes_of_text (characters start) text) (most - sym size k)
              (symbol (bytes_of_text (characters start) text) scanner.position));
        }

    module _ (most : ℕ) (start now : S) (text : Text ℕ) (first : Symbol × ℕ) (scanner : Reading)
        (names : List (List ℕ)) (so_far : IsGathering most start now text first scanner names) where
      pub inside : scanner.position ≤ length scanner.text
      inside = omega (arith, so_far.within, ap length so_far.same)

      pub offsets : AreWithin (length (characters start)) text → AreWithin (length (characters now)) scanner.text
      offsets h = rw (so_far.reads.as_long, so_far.same) h

      -- the symbol that was scanned now is one of the bytes at the beginning
      scanned : (s : Symbol) (end : ℕ) → (honest now → symbol (bytes_of_text (characters now) scanner.text) scanner.position
          ≡ (s, end)) → honest start
          → symbol (bytes_of_text (characters start) text) scanner.position ≡ (s, end)
      scanned s end there h = sym (λ k. symbol (bytes_of_text (so_far.reads.same h k) (so_far.same k)) scanner.position)
          ∙ there (so_far.reads.still h)

      -- one more name
      pub onward : (later : S) (next : Reading) (s : Symbol) (name : List ℕ) (more : List (List ℕ))
          → length names ≢ most → next.text ≡ scanner.text → next.position ≤ length scanner.text
          → (honest now → symbol (bytes_of_text (characters now) scanner.text) scanner.position ≡ (s, next.position))
          → Some name ≡ name_in s → more ≡ names ++ name ∷ []
          → OnlyReads characters failures honest same_ground now later → failures later ≡ failures now
          → IsGathering most start later text first next more
      onward later next s name more room t within there is made reads calm =
          let size : length more ≡ length names + 1 = ap length made ∙ length-append names (name ∷ []) in
          let left : most - length names - 1 ≡ most - length more = omega (arith, size) in record {
            same = t ∙ so_far.same;
            within = omega (arith, within, ap length so_far.same);
            reads = read_on characters failures honest same_ground ground_through start now later so_far.reads reads;
            calm = calm ∙ so_far.calm;
            fits = omega (arith, size, room, so_far.fits);
            exact = λ h.
                let bs : List ℕ = bytes_of_text (characters start) text in
                let found = scanned s next.position there h in
                so_far.exact h
                ∙ (ap (λ l. names ++ l) (ap (names_on bs (most - length names)) found
                ∙ names_on_more bs (most - length names) (s, next.position) name (omega (arith, room, so_far.fits))
                (sym is))
                ∙ (sym (append_assoc names (name ∷ []) (names_on bs (most - length names - 1)
                (symbol bs next.position)))
                ∙ (λ k. sym made k ++ names_on bs (left k) (symbol bs next.position))));
          }

      -- another symbol ends the list
      pub ended : (s : Symbol) (end : ℕ) → (honest now → symbol (bytes_of_text (characters now) scanner.text) scanner.position
          ≡ (s, end)) → None ≡ name_in s → honest start
          → names ≡ names_on (bytes_of_text (characters start) text) most first
      ended s end there is h =
          let bs : List ℕ = bytes_of_text (characters start) text in
          sym (so_far.exact h ∙ (ap (λ l. names ++ l) (ap (names_on bs (most - length names)) (scanned s end there h)
          ∙ names_on_none bs (most - length names) (s, end) (sym is)) ∙ append-nil names))

      -- so many names are enough
      pub filled : length names ≡ most → honest start → names ≡ names_on (bytes_of_text (characters start) text) most first
      filled e h =
          let bs : List ℕ = bytes_of_text (characters start) text in let none : most - length names ≡ 0 = omega (arith, e) in
          sym (so_far.exact h ∙ (ap (λ l. names ++ l) (ap (λ n. names_on bs n (symbol bs scanner.position)) none
          ∙ names_on_zero bs (symbol bs scanner.position)) ∙ append-nil names))

-- no name at all
pub no_names : (bs : List ℕ) (most : ℕ) (first : Symbol) (q : ℕ) (none : List (List ℕ)) → none ≡ []
    → None ≡ name_in first → none ≡ names_on bs most (first, q)
no_names bs most first q none e is = e ∙ sym (names_on_none bs most (first, q) (sym is))
