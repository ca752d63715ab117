-- A content is found to be one thing: a store, no store, or a store that is damaged in one sector.
use Rattle.std.proofs.Common.{◌≡◌, inl, inr, ℕ, ◌<◌, sym, ◌∙◌, ap, subst, arith, true}
use Rattle.std.proofs.lemmas.Bool.{cases_lt}
use Rattle.sector_disk.specs.Trail.{Content}
use Rattle.image_format.specs.Laws.{UniqueLaw}
use Rattle.store_layout.specs.declared.layout.TheConstants.{SLOTS}
use Rattle.store_layout.proofs.Bits.{clash}
use Rattle.store_layout.specs.Layout.{is_open, slot_gate, slot_head, body, image_at}
use Rattle.store_layout.specs.Meaning.{HasImage, Standing, Stands}
use Rattle.store_layout.specs.Finding.{AreShut, HasBadHead, HasBadImage, HasBadBody, IsNoEvent, IsDamage}
use Rattle.store_layout.specs.Finding.{AreHeadsGood, FindsOneThing}
use Rattle.store_layout.proofs.StandingLaws.{one_in_use, stands_in_use, stands_heads, journal_goes_on}
use Rattle.store_layout.proofs.OneStanding.{BeginLaw, one_meaning}

module _ (c : Content) where
  -- ---- two kinds of damage exclude each other

  shut_not_open : (slot : ℕ) → AreShut c → slot < SLOTS → is_open (c (slot_gate slot)) ≡ true → ⊥
  shut_not_open slot shut low opened = elim (cases_lt slot 1) [
    | inl first ↦ (let here : slot ≡ 0 = omega (arith, first) in
        clash (subst (λ n. is_open (c (slot_gate n)) ≡ true) here opened) shut.first)
    | inr second ↦ (let here : slot ≡ 1 = omega (arith, low, second) in
        clash (subst (λ n. is_open (c (slot_gate n)) ≡ true) here opened) shut.second)
  ]

  heads_not_bad : (slot : ℕ) → AreHeadsGood c → HasBadHead c slot → ⊥
  heads_not_bad slot heads b = b.bad (heads slot b.two b.opened)

  image_not_bad : (slot slot' k : ℕ) → HasBadImage c slot → HasBadBody c slot' k → ⊥
  image_not_bad slot slot' k b b' = b.none b'.start
      (subst (λ n. HasImage c n b'.start) (one_in_use c slot' slot b'.used b.used) b'.image)

  -- ---- two of one kind are in one sector

  same_head : (slot slot' : ℕ) → HasBadHead c slot → HasBadHead c slot' → slot ≡ slot'
  same_head slot slot' b b' = elim (cases_lt slot slot') [
    | inl less ↦ absurd (b.bad (b'.before slot less b.opened))
    | inr ge ↦ elim (cases_lt slot' slot) [
      | inl less ↦ absurd (b'.bad (b.before slot' less b'.opened))
      | inr le ↦ omega (arith, ge, le)
    ]
  ]

  same_place : (slot k k' : ℕ) → IsNoEvent c slot k → IsNoEvent c slot k' → k ≡ k'
  same_place slot k k' b b' = elim (cases_lt k k') [
    | inl less ↦ (let event = b'.events k less in absurd (b.none event.0 event.1))
    | inr ge ↦ elim (cases_lt k' k) [
      | inl less ↦ (let event = b.events k' less in absurd (b'.none event.0 event.1))
      | inr le ↦ omega (arith, ge, le)
    ]
  ]

  same_body : (slot k slot' k' : ℕ) → HasBadBody c slot k → HasBadBody c slot' k' → body slot k ≡ body slot' k'
  same_body slot k slot' k' b b' = ap (λ n. body n k) same ∙ ap (body slot')
      (same_place slot' k k' (subst (λ n. IsNoEvent c n k) same b.body_is) b'.body_is)
    where
      same : slot ≡ slot'
      same = one_in_use c slot slot' b.used b'.used

  one_damage : (n n' : ℕ) → IsDamage c n → IsDamage c n' → n ≡ n'
  one_damage n n' (inl b) (inl b') = b.0 ∙ sym b'.0
  one_damage n n' (inl b) (inr (inl b')) = absurd (shut_not_open b'.0 b.1 b'.2.two b'.2.opened)
  one_damage n n' (inl b) (inr (inr (inl b'))) = absurd (shut_not_open b'.0 b.1 b'.2.used.two b'.2.used.opened)
  one_damage n n' (inl b) (inr (inr (inr b'))) = absurd (shut_not_open b'.0 b.1 b'.3.used.two b'.3.used.opened)
  one_damage n n' (inr (inl b)) (inl b') = absurd (shut_not_open b.0 b'.1 b.2.two b.2.opened)
  one_damage n n' (inr (inl b)) (inr (inl b')) =
      b.1 ∙ ap slot_head (same_head b.0 b'.0 b.2 b'.2) ∙ sym b'.1
  one_damage n n' (inr (inl b)) (inr (inr (inl b'))) = absurd (heads_not_bad b.0 b'.2.heads b.2)
  one_damage n n' (inr (inl b)) (inr (inr (inr b'))) = absurd (heads_not_bad b.0 b'.3.heads b.2)
  one_damage n n' (inr (inr (inl b))) (inl b') = absurd (shut_not_open b.0 b'.1 b.2.used.two b.2.used.opened)
  one_damage n n' (inr (inr (inl b))) (inr (inl b')) = absurd (heads_not_bad b'.0 b.2.heads b'.2)
  one_damage n n' (inr (inr (inl b))) (inr (inr (inl b'))) =
      b.1 ∙ ap image_at (one_in_use c b.0 b'.0 b.2.used b'.2.used) ∙ sym b'.1
  one_damage n n' (inr (inr (inl b))) (inr (inr (inr b'))) = absurd (image_not_bad b.0 b'.0 b'.1 b.2 b'.3)
  one_damage n n' (inr (inr (inr b))) (inl b') = absurd (shut_not_open b.0 b'.1 b.3.used.two b.3.used.opened)
  one_damage n n' (inr (inr (inr b))) (inr (inl b')) = absurd (heads_not_bad b'.0 b.3.heads b'.2)
  one_damage n n' (inr (inr (inr b))) (inr (inr (inl b'))) = absurd (image_not_bad b'.0 b.0 b.1 b'.2 b.3)
  one_damage n n' (inr (inr (inr b))) (inr (inr (inr b'))) =
      b.2 ∙ same_body b.0 b.1 b'.0 b'.1 b.3 b'.3 ∙ sym b'.2

  -- ---- a store isn't damaged

  whole : (size n : ℕ) (s : Standing) → Stands size c s → IsDamage c n → ⊥
  whole size n s was (inl b) = shut_not_open s.slot b.1 was.two was.live
  whole size n s was (inr (inl b)) = heads_not_bad b.0 (stands_heads c s was) b.2
  whole size n s was (inr (inr (inl b))) = b.2.none s.start
      (subst (λ slot. HasImage c slot s.start) (one_in_use c s.slot b.0 (stands_in_use c s was) b.2.used) was.image)
  whole size n s was (inr (inr (inr b))) =
      let place : IsNoEvent c s.slot b.1 = subst (λ slot. IsNoEvent c slot b.1)
      (one_in_use c b.0 s.slot b.3.used (stands_in_use c s was)) b.3.body_is in
      let event = journal_goes_on s.events c s.slot 0 b.1 was.journal (omega arith) place.within place.led in
      place.none event.0 event.1

pub finding : BeginLaw → UniqueLaw → (size : ℕ) (c : Content) → FindsOneThing size c
finding begins unique size c = record {
  one_desktop = one_meaning begins unique size c;
  one_damage = λ n n' one two. one_damage c n n' one.damage two.damage;
  not_foreign = λ d means foreign. elim foreign [
    | inl small ↦ omega (arith, small, means.1.large)
    | inr label ↦ clash means.1.label label
  ];
  not_damaged = λ d n means damaged. whole c size n means.0 means.1 damaged.damage;
  not_both = λ n foreign damaged. elim foreign [
    | inl small ↦ omega (arith, small, damaged.large)
    | inr label ↦ clash damaged.label label
  ];
}
