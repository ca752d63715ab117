-- A content has one past at most.
use Rattle.std.proofs.Common.{◌≡◌, inl, inr, ◌+◌, ◌≤◌, ◌<◌, ◌^◌, ℕ, List, [], ◌∷◌, ◌++◌, length}
use Rattle.std.proofs.Common.{take, drop, refl, sym}
use Rattle.std.proofs.Common.{◌∙◌, ap, subst, arith}
use Rattle.std.specs.Int.{w32, w64, from_be_bytes, to_be_bytes}
use Rattle.std.proofs.lemmas.Bool.{cases_lt}
use Rattle.std.proofs.lemmas.Nat.{from_be_bytes-to_be_bytes_4, from_be_bytes-to_be_bytes_8}
use Rattle.sector_disk.specs.Stored.{HoldsBytes}
use Rattle.sector_disk.specs.Trail.{Content}
use Rattle.sector_disk.proofs.StoredLaws.{stored_held, take-stored}
use Rattle.event_bytes.specs.declared.event.Event.{Event}
use Rattle.event_bytes.specs.Spelling.{BeginsWithEvent, spelling}
use Rattle.document_filing.specs.Bringing.{Documents}
use Rattle.std.specs.Prelude.{Bool, false, true}
use Rattle.desktop_definitions.specs.Desktop.{Desktop}
use Rattle.store_layout.specs.Finding.{StandingLaw}
use Rattle.store_slots.specs.Bodies.{spellings}
use Rattle.past_pages.specs.Copies.{Sectors, AreSectors, IsCopyOf, laid_sectors}
use Rattle.past_pages.specs.Page.{Page, of_copy, of_events, of_import, of_turn, page_count, behind_length, number}
use Rattle.past_pages.specs.Page.{sector_spelling, sector_spellings}
use Rattle.past_pages.specs.Page.{document_spelling, document_spellings, page_kind, page_bytes, page_sectors}
use Rattle.past_pages.specs.Page.{AreDocuments, AreEvents, IsGoodPage}
use Rattle.past_pages.proofs.PageReads.{dropped_bytes, joined, small_kind}
use Rattle.past_pages.proofs.DocumentReads.{short_name}
use Rattle.desk_past.specs.Deeds.{PastDeed, all_posted}
use Rattle.desk_past.specs.Past.{HasPages, deeds_in, end_of_pages, AreGood, AreTurns, IsTurn, OnePastLaw, Start}
use Rattle.desk_past.specs.Past.{all_deeds, first_page, moment}
use Rattle.desk_past.proofs.Carrying.{end_above}
use Rattle.store_layout.specs.declared.layout.TheConstants.{STORE_SECTORS}
use Rattle.store_layout.specs.Meaning.{Stands, desktop_of}
use Rattle.std.proofs.lemmas.List.{take-append-drop}

abbrev pub BeginLaw : Type 0
BeginLaw = (bytes : List ℕ) (e f : Event) → BeginsWithEvent bytes e → BeginsWithEvent bytes f → e ≡ f

pub taken_bytes : (a b : List ℕ) → take (length a) (a ++ b) ≡ a
taken_bytes [] b = refl
taken_bytes (x ∷ a) b = ap (λ r. x ∷ r) (taken_bytes a b)

-- events of which the bytes begin alike, as many of both, are the same
events_same : BeginLaw → (events events' : List Event) (rest : List ℕ) → AreEvents events → AreEvents events'
    → length events ≡ length events' → spellings events' ≡ spellings events ++ rest → events ≡ events'
events_same law [] [] rest valid valid' long same = refl
events_same law [] (e ∷ l) rest valid valid' long same = absurd (omega (arith, long))
events_same law (e ∷ l) [] rest valid valid' long same = absurd (omega (arith, long))
events_same law (e ∷ l) (e' ∷ l') rest valid valid' long same =
    let first : e ≡ e' = law (spelling e' ++ spellings l') e e'
    (record { valid = valid.0; rest = spellings l ++ rest; parts = same ∙ joined (spelling e) (spellings l) rest })
    (record { valid = valid'.0; rest = spellings l'; parts = refl }) in
    let tails : spellings l' ≡ spellings l ++ rest =
    sym (dropped_bytes (spelling e) (spellings l'))
    ∙ ap (λ x. drop (length (spelling e)) (spelling x ++ spellings l')) first
    ∙ ap (drop (length (spelling e))) (same ∙ joined (spelling e) (spellings l) rest)
    ∙ dropped_bytes (spelling e) (spellings l ++ rest) in
    λ i. first i ∷ events_same law l l' rest valid.1 valid'.1 (omega (arith, long)) tails i

-- bytes behind their number, of which others begin alike, are the same
pub counted_same : (a a' rest rest' : List ℕ) → length a < 2 ^ 32 → length a' < 2 ^ 32
    → behind_length a ++ rest ≡ behind_length a' ++ rest' → (a ≡ a') × (rest ≡ rest')
counted_same a a' rest rest' short short' same =
    let long : length a ≡ length a' =
    sym (from_be_bytes-to_be_bytes_4 (length a) short)
    ∙ ap (λ l. from_be_bytes w32 (take 4 l)) same
    ∙ from_be_bytes-to_be_bytes_4 (length a') short' in
    let tails : a ++ rest ≡ a' ++ rest' = ap (drop 4) same in (
      sym (taken_bytes a rest) ∙ ap (take (length a)) tails ∙ ap (λ n. take n (a' ++ rest')) long ∙ taken_bytes a'
          rest',
      sym (dropped_bytes a rest) ∙ ap (drop (length a)) tails ∙ ap (λ n. drop n (a' ++ rest')) long
          ∙ dropped_bytes a' rest',
    )

-- documents of which the bytes begin alike, as many of both, are the same
documents_same : (documents documents' : Documents) (rest : List ℕ) → AreDocuments documents → AreDocuments documents'
    → length documents ≡ length documents' → document_spellings documents' ≡ document_spellings documents ++ rest
    → documents ≡ documents'
documents_same [] [] rest valid valid' long same = refl
documents_same [] (e ∷ l) rest valid valid' long same = absurd (omega (arith, long))
documents_same (e ∷ l) [] rest valid valid' long same = absurd (omega (arith, long))
documents_same (e ∷ l) (e' ∷ l') rest valid valid' long same =
    let parts : behind_length e'.0 ++ (behind_length e'.1 ++ document_spellings l')
    ≡ behind_length e.0 ++ (behind_length e.1 ++ (document_spellings l ++ rest)) =
    sym (joined (behind_length e'.0) (behind_length e'.1) (document_spellings l')) ∙ same
    ∙ joined (document_spelling e) (document_spellings l) rest
    ∙ joined (behind_length e.0) (behind_length e.1) (document_spellings l ++ rest) in
    let first = counted_same e'.0 e.0 _ _ (short_name e'.0 valid'.0.name) (short_name e.0 valid.0.name) parts in
    let second = counted_same e'.1 e.1 _ _ valid'.0.short valid.0.short first.1 in
    λ i. (sym first.0 i, sym second.0 i) ∷ documents_same l l' rest valid.1 valid'.1 (omega (arith, long)) second.1 i

-- sectors of which the bytes begin alike, as many of both, are the same
sectors_same : (sectors sectors' : Sectors) (rest : List ℕ) → AreSectors sectors → AreSectors sectors'
    → length sectors ≡ length sectors' → sector_spellings sectors' ≡ sector_spellings sectors ++ rest
    → sectors ≡ sectors'
sectors_same [] [] rest are are' long same = refl
sectors_same [] (x ∷ l) rest are are' long same = absurd (omega (arith, long))
sectors_same (x ∷ l) [] rest are are' long same = absurd (omega (arith, long))
sectors_same (x ∷ l) (x' ∷ l') rest are are' long same =
    let parts : number x'.0 ++ (x'.1 ++ sector_spellings l') ≡ number x.0 ++ (x.1 ++ (sector_spellings l ++ rest)) =
    sym (joined (number x'.0) x'.1 (sector_spellings l')) ∙ same
    ∙ joined (sector_spelling x) (sector_spellings l) rest
    ∙ joined (number x.0) x.1 (sector_spellings l ++ rest) in
    let numbers : x'.0 ≡ x.0 =
    sym (from_be_bytes-to_be_bytes_4 x'.0 (omega (arith, are'.0)))
    ∙ ap (λ b. from_be_bytes w32 (take 4 b)) parts
    ∙ from_be_bytes-to_be_bytes_4 x.0 (omega (arith, are.0)) in
    let tails : x'.1 ++ sector_spellings l' ≡ x.1 ++ (sector_spellings l ++ rest) = ap (drop 4) parts in
    let longs : length x'.1 ≡ length x.1 = are'.1 ∙ sym are.1 in
    let held : x'.1 ≡ x.1 = sym (taken_bytes x'.1 (sector_spellings l')) ∙ ap (take (length x'.1)) tails
    ∙ ap (λ n. take n (x.1 ++ (sector_spellings l ++ rest))) longs ∙ taken_bytes x.1 (sector_spellings l ++ rest) in
    let others : sector_spellings l' ≡ sector_spellings l ++ rest =
    sym (dropped_bytes x'.1 (sector_spellings l')) ∙ ap (drop (length x'.1)) tails
    ∙ ap (λ n. drop n (x.1 ++ (sector_spellings l ++ rest))) longs ∙ dropped_bytes x.1 (sector_spellings l ++ rest) in
    λ i. (sym numbers i, sym held i) ∷ sectors_same l l' rest are.2 are'.2 (omega (arith, long)) others i

-- sectors show one desktop
copies_same : StandingLaw → (sectors sectors' : Sectors) (to to' : Desktop) → sectors ≡ sectors' → IsCopyOf sectors to
    → IsCopyOf sectors' to' → to ≡ to'
copies_same standing sectors sectors' to to' same copy copy' =
    sym copy.is ∙ ap desktop_of (standing STORE_SECTORS (laid_sectors sectors') copy.standing copy'.standing
    (subst (λ l. Stands STORE_SECTORS (laid_sectors l) copy.standing) same copy.stands) copy'.stands) ∙ copy'.is

-- ---- pages of which the bytes begin alike are the same

same_kind : (p p' : Page) (rest : List ℕ) → page_bytes p' ≡ page_bytes p ++ rest → page_kind p ≡ page_kind p'
same_kind p p' rest same =
    sym (from_be_bytes-to_be_bytes_4 (page_kind p) (small_kind p))
    ∙ sym (ap (λ l. from_be_bytes w32 (take 4 l)) same)
    ∙ from_be_bytes-to_be_bytes_4 (page_kind p') (small_kind p')

same_count : (p p' : Page) (rest : List ℕ) → IsGoodPage p → IsGoodPage p' → page_bytes p' ≡ page_bytes p ++ rest
    → page_count p ≡ page_count p'
same_count p p' rest good good' same =
    sym (from_be_bytes-to_be_bytes_4 (page_count p) good.few)
    ∙ sym (ap (λ l. from_be_bytes w32 (take 4 (drop 8 l))) same)
    ∙ from_be_bytes-to_be_bytes_4 (page_count p') good'.few

other_kind : {X : Type 0} (p p' : Page) (rest : List ℕ) → ¬ (page_kind p ≡ page_kind p')
    → page_bytes p' ≡ page_bytes p ++ rest → X
other_kind p p' rest other same = absurd (other (same_kind p p' rest same))

-- the moment of a turn
same_moment : (k k' : ℕ) (rest : List ℕ) → k < 2 ^ 64 → k' < 2 ^ 64
    → to_be_bytes w64 k' ≡ to_be_bytes w64 k ++ rest → k ≡ k'
same_moment k k' rest few few' same =
    sym (from_be_bytes-to_be_bytes_8 k few)
    ∙ sym (ap (λ l. from_be_bytes w64 (take 8 l)) same)
    ∙ from_be_bytes-to_be_bytes_8 k' few'

module _ (law : BeginLaw) (standing : StandingLaw) (start : Start) (deeds : List PastDeed) where
  copy_of_front : (far : Bool) (version version' : ℕ) (sectors sectors' : Sectors) (to to' : Desktop) (rest : List ℕ)
      → IsGoodPage (of_copy version far sectors to) → IsGoodPage (of_copy version' far sectors' to')
      → page_bytes (of_copy version' far sectors' to') ≡ page_bytes (of_copy version far sectors to) ++ rest
      → of_copy version far sectors to ≡ of_copy version' far sectors' to'
  copy_of_front far version version' sectors sectors' to to' rest good good' same =
      let versions : version ≡ version' = good.newest ∙ sym good'.newest in
      let long = same_count (of_copy version far sectors to) (of_copy version' far sectors' to') rest good good' same in
      let all = sectors_same sectors sectors' rest good.valid.are good'.valid.are long (ap (drop 16) same) in
      let tos = copies_same standing sectors sectors' to to' all good.valid good'.valid in
      λ i. of_copy (versions i) far (all i) (tos i)

  -- what the desktop was then follows from the deeds before it, or from the page
  page_of_front : (p p' : Page) (rest : List ℕ) → IsGoodPage p → IsGoodPage p' → IsTurn start deeds p
      → IsTurn start deeds p' → page_bytes p' ≡ page_bytes p ++ rest → p ≡ p'
  page_of_front (of_events version events) (of_events version' events') rest good good' turn turn' same =
      let versions : version ≡ version' = good.newest ∙ sym good'.newest in
      let long = same_count (of_events version events) (of_events version' events') rest good good' same in
      let all = events_same law events events' rest good.valid good'.valid long (ap (drop 16) same) in
      λ i. of_events (versions i) (all i)
  page_of_front (of_events version events) (of_import version' documents') rest good good' turn turn' same =
      other_kind (of_events version events) (of_import version' documents') rest (λ is. omega (arith, is)) same
  page_of_front (of_events version events) (of_turn version' k' to') rest good good' turn turn' same =
      other_kind (of_events version events) (of_turn version' k' to') rest (λ is. omega (arith, is)) same
  page_of_front (of_events version events) (of_copy version' false sectors' to') rest good good' turn turn' same =
      other_kind (of_events version events) (of_copy version' false sectors' to') rest (λ is. omega (arith, is)) same
  page_of_front (of_events version events) (of_copy version' true sectors' to') rest good good' turn turn' same =
      other_kind (of_events version events) (of_copy version' true sectors' to') rest (λ is. omega (arith, is)) same
  page_of_front (of_import version documents) (of_events version' events') rest good good' turn turn' same =
      other_kind (of_import version documents) (of_events version' events') rest (λ is. omega (arith, is)) same
  page_of_front (of_import version documents) (of_import version' documents') rest good good' turn turn' same =
      let versions : version ≡ version' = good.newest ∙ sym good'.newest in
      let long = same_count (of_import version documents) (of_import version' documents') rest good good' same in
      let all = documents_same documents documents' rest good.valid good'.valid long (ap (drop 16) same) in
      λ i. of_import (versions i) (all i)
  page_of_front (of_import version documents) (of_turn version' k' to') rest good good' turn turn' same =
      other_kind (of_import version documents) (of_turn version' k' to') rest (λ is. omega (arith, is)) same
  page_of_front (of_import version documents) (of_copy version' false sectors' to') rest good good' turn turn' same =
      other_kind (of_import version documents) (of_copy version' false sectors' to') rest (λ is. omega (arith, is)) same
  page_of_front (of_import version documents) (of_copy version' true sectors' to') rest good good' turn turn' same =
      other_kind (of_import version documents) (of_copy version' true sectors' to') rest (λ is. omega (arith, is)) same
  page_of_front (of_turn version k to) (of_events version' events') rest good good' turn turn' same =
      other_kind (of_turn version k to) (of_events version' events') rest (λ is. omega (arith, is)) same
  page_of_front (of_turn version k to) (of_import version' documents') rest good good' turn turn' same =
      other_kind (of_turn version k to) (of_import version' documents') rest (λ is. omega (arith, is)) same
  page_of_front (of_turn version k to) (of_turn version' k' to') rest good good' turn turn' same =
      let versions : version ≡ version' = good.newest ∙ sym good'.newest in
      let ks : k ≡ k' = same_moment k k' rest good.valid good'.valid (ap (drop 16) same) in
      let tos : to ≡ to' = turn.1 ∙ ap (moment start deeds) ks ∙ sym turn'.1 in
      λ i. of_turn (versions i) (ks i) (tos i)
  page_of_front (of_turn version k to) (of_copy version' false sectors' to') rest good good' turn turn' same =
      other_kind (of_turn version k to) (of_copy version' false sectors' to') rest (λ is. omega (arith, is)) same
  page_of_front (of_turn version k to) (of_copy version' true sectors' to') rest good good' turn turn' same =
      other_kind (of_turn version k to) (of_copy version' true sectors' to') rest (λ is. omega (arith, is)) same
  page_of_front (of_copy version false sectors to) (of_events version' events') rest good good' turn turn' same =
      other_kind (of_copy version false sectors to) (of_events version' events') rest (λ is. omega (arith, is)) same
  page_of_front (of_copy version false sectors to) (of_import version' documents') rest good good' turn turn' same =
      other_kind (of_copy version false sectors to) (of_import version' documents') rest (λ is. omega (arith, is)) same
  page_of_front (of_copy version false sectors to) (of_turn version' k' to') rest good good' turn turn' same =
      other_kind (of_copy version false sectors to) (of_turn version' k' to') rest (λ is. omega (arith, is)) same
  page_of_front (of_copy version false sectors to) (of_copy version' false sectors' to') rest good good' turn turn'
      same =
      copy_of_front false version version' sectors sectors' to to' rest good good' same
  page_of_front (of_copy version false sectors to) (of_copy version' true sectors' to') rest good good' turn turn'
      same =
      other_kind (of_copy version false sectors to) (of_copy version' true sectors' to') rest (λ is. omega (arith, is))
      same
  page_of_front (of_copy version true sectors to) (of_events version' events') rest good good' turn turn' same =
      other_kind (of_copy version true sectors to) (of_events version' events') rest (λ is. omega (arith, is)) same
  page_of_front (of_copy version true sectors to) (of_import version' documents') rest good good' turn turn' same =
      other_kind (of_copy version true sectors to) (of_import version' documents') rest (λ is. omega (arith, is)) same
  page_of_front (of_copy version true sectors to) (of_turn version' k' to') rest good good' turn turn' same =
      other_kind (of_copy version true sectors to) (of_turn version' k' to') rest (λ is. omega (arith, is)) same
  page_of_front (of_copy version true sectors to) (of_copy version' false sectors' to') rest good good' turn turn'
      same =
      other_kind (of_copy version true sectors to) (of_copy version' false sectors' to') rest (λ is. omega (arith, is))
      same
  page_of_front (of_copy version true sectors to) (of_copy version' true sectors' to') rest good good' turn turn' same =
      copy_of_front true version version' sectors sectors' to to' rest good good' same

front_of : (c : Content) (at : ℕ) (l l' : List ℕ) → HoldsBytes c at l → HoldsBytes c at l' → length l ≤ length l'
    → l' ≡ l ++ drop (length l) l'
front_of c at l l' held held' le =
    sym (take-append-drop (length l) l')
    ∙ ap (λ x. x ++ drop (length l) l')
    (ap (take (length l)) (sym (stored_held c at l' held')) ∙ take-stored c at (length l') (length l) le
    ∙ stored_held c at l held)

page_same : BeginLaw → StandingLaw → (start : Start) (deeds : List PastDeed) (c : Content) (at : ℕ) (p p' : Page)
    → IsGoodPage p
    → IsGoodPage p' → IsTurn start deeds p → IsTurn start deeds p' → HoldsBytes c at (page_bytes p)
    → HoldsBytes c at (page_bytes p') → p ≡ p'
page_same law standing start deeds c at p p' good good' turn turn' held held' =
    elim (cases_lt (length (page_bytes p')) (length (page_bytes p))) [
      | inl less ↦ sym (page_of_front law standing start deeds p' p _ good' good turn' turn
          (front_of c at (page_bytes p') (page_bytes p) held' held (omega (arith, less))))
      | inr ge ↦ page_of_front law standing start deeds p p' _ good good' turn turn'
          (front_of c at (page_bytes p) (page_bytes p') held held' (omega (arith, ge)))
    ]

-- pages that end in the same sector are the same, one after another: each takes a sector at least
pages_same : BeginLaw → StandingLaw → (start : Start) (deeds : List PastDeed) (c : Content) (at : ℕ)
    (pages pages' : List Page)
    → AreGood pages → AreGood pages' → AreTurns start deeds pages → AreTurns start deeds pages'
    → end_of_pages at pages ≡ end_of_pages at pages' → HasPages c at pages → HasPages c at pages' → pages ≡ pages'
pages_same law standing start deeds c at [] [] good good' turns turns' ends has has' = refl
pages_same law standing start deeds c at [] (p ∷ l) good good' turns turns' ends has has' =
    absurd (let far = end_above l (at + page_sectors p) in omega (arith, ends, far))
pages_same law standing start deeds c at (p ∷ l) [] good good' turns turns' ends has has' =
    absurd (let far = end_above l (at + page_sectors p) in omega (arith, ends, far))
pages_same law standing start deeds c at (p ∷ l) (p' ∷ l') good good' turns turns' ends has has' =
    let first = page_same law standing start deeds c at p p' good.0 good'.0 turns.0 turns'.0 has.0 has'.0 in
    λ i. first i ∷ pages_same law standing start (deeds ++ deeds_in p) c (at + page_sectors p) l l' good.1 good'.1
    turns.1
    (subst (λ q. AreTurns start (deeds ++ deeds_in q) l') (sym first) turns'.1)
    (ends ∙ ap (λ q. end_of_pages (at + page_sectors q) l') (sym first)) has.1
    (subst (λ q. HasPages c (at + page_sectors q) l') (sym first) has'.1) i

pub one_past : BeginLaw → StandingLaw → OnePastLaw
one_past law standing size start deeds deeds' desktop desktop' c r r' =
    let same = standing size c r.standing r'.standing r.past.stands r'.past.stands in
    let pages = pages_same law standing start [] c (first_page start) r.pages r'.pages r.past.good r'.past.good
    r.past.turns
    r'.past.turns
    (r.past.up_to ∙ ap (λ x. x.past.next) same ∙ sym r'.past.up_to) r.past.written.1 r'.past.written.1 in (
      sym r.all ∙ (λ i. all_deeds (pages i) ++ all_posted (same i).events) ∙ r'.all,
      sym r.is ∙ ap desktop_of same ∙ r'.is,
    )
