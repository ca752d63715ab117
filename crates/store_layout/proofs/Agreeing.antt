-- Contents that agree on the footprint of one of them.
use Rattle.std.proofs.Common.{◌≡◌, inl, inr, ℕ, ◌+◌, ◌<◌, ◌≤◌, length, sym, ◌∙◌, ap, subst, arith, true, zero, suc}
use Rattle.std.proofs.lemmas.Bool.{cases_lt}
use Rattle.sector_disk.specs.Trail.{Content}
use Rattle.desktop_definitions.specs.Desktop.{Desktop}
use Rattle.store_layout.specs.declared.layout.TheConstants.{JOURNAL_EVENTS, SLOTS}
use Rattle.store_layout.specs.Layout.{is_open, slot_gate, gate, area_at, head, head_of}
use Rattle.store_layout.specs.Meaning.{Standing, Stands, Means, full_sectors}
use Rattle.store_layout.specs.Footprint.{IsLedTo, IsInUse, AgreesOnFootprint}
use Rattle.store_layout.proofs.StandingLaws.{standing_carried, journal_stays, journal_short, journal_leads}
use Rattle.store_layout.proofs.StandingLaws.{older_stays, stands_in_use}

-- what the one shows the other shows
agreed : (size : ℕ) (c c' : Content) (s : Standing) → AgreesOnFootprint c c' → Stands size c s → Stands size c' s
agreed size c c' s a was = standing_carried c c' s was a.label (ap is_open (a.slot_gates s.slot was.two) ∙ was.live)
    (a.heads s.slot was.two was.live)
    (λ idle two opened.
    let below : idle < SLOTS = omega arith in
    let opened_before = sym (ap is_open (a.slot_gates idle below)) ∙ opened in
    older_stays c c' s.epoch idle (a.heads idle below opened_before) (was.other idle two opened_before))
    (λ k within. a.image s.slot k used within)
    (λ k within. a.area s.slot k used within)
    (journal_stays s.events c c' s.slot 0 (length s.events) (omega arith)
    (λ i low high room. a.gates s.slot i used room
    (λ j before. journal_leads s.events c s.slot 0 j was.journal (omega arith) (omega (arith, before, high))))
    (λ i low high. a.bodies s.slot i used (omega (arith, high, short))
    (λ j before. journal_leads s.events c s.slot 0 j was.journal (omega arith) (omega (arith, before, high))))
    was.journal)
  where
    used : IsInUse c s.slot
    used = stands_in_use c s was

    short : 0 + length s.events ≤ JOURNAL_EVENTS
    short = journal_short s.events c s.slot 0 (omega arith) was.journal

-- and the first agrees with the second on the footprint of that
module _ (c c' : Content) (a : AgreesOnFootprint c c') where
  opened_there : (slot : ℕ) → slot < SLOTS → is_open (c' (slot_gate slot)) ≡ true → is_open (c (slot_gate slot)) ≡ true
  opened_there slot low opened = sym (ap is_open (a.slot_gates slot low)) ∙ opened

  same_head : (slot : ℕ) → slot < SLOTS → is_open (c (slot_gate slot)) ≡ true → head c' slot ≡ head c slot
  same_head slot low opened = ap head_of (a.heads slot low opened)

  used_there : (slot : ℕ) → IsInUse c' slot → IsInUse c slot
  used_there slot used = record {
    two = used.two;
    opened = opened_there slot used.two used.opened;
    other = λ idle two opened.
        let below : idle < SLOTS = omega arith in
        let mine = ap (λ h. h.epoch) (same_head slot used.two (opened_there slot used.two used.opened)) in
        let its = ap (λ h. h.epoch) (same_head idle below opened) in
        omega (arith, used.other idle two (ap is_open (a.slot_gates idle below) ∙ opened), mine, its);
  }

  led_there : (k slot : ℕ) → IsInUse c slot → k ≤ JOURNAL_EVENTS → IsLedTo c' slot k → IsLedTo c slot k
  led_there zero slot used few led = λ j low. absurd (omega (arith, low))
  led_there (suc k) slot used few led =
      let before : IsLedTo c slot k = led_there k slot used (omega arith) (λ j low. led j (omega (arith, low))) in
      λ j low. elim (cases_lt j k) [
        | inl less ↦ before j less
        | inr ge ↦ (let here : k ≡ j = omega (arith, low, ge) in
            subst (λ n. is_open (c (gate slot n)) ≡ true) here
            (sym (ap is_open (a.gates slot k used (omega arith) before)) ∙ led k (omega arith)))
      ]

  pub agrees_back : AgreesOnFootprint c' c
  agrees_back = record {
    label = sym a.label;
    slot_gates = λ slot low. sym (a.slot_gates slot low);
    heads = λ slot low opened. sym (a.heads slot low (opened_there slot low opened));
    image = λ slot k used within.
        (let here = used_there slot used in
        let same = ap (λ h. h.extent) (same_head slot here.two here.opened) in
        sym (a.image slot k here (omega (arith, within, same))));
    area = λ slot k used within.
        (let here = used_there slot used in
        let same = same_head slot here.two here.opened in
        subst (λ h. c (area_at h.area k) ≡ c' (area_at h.area k)) (sym same)
        (sym (a.area slot k here (subst (λ h. k < full_sectors h.written) same within))));
    gates = λ slot k used room led.
        (let here = used_there slot used in
        sym (a.gates slot k here room (led_there k slot here (omega (arith, room)) led)));
    bodies = λ slot k used room led.
        (let here = used_there slot used in
        sym (a.bodies slot k here room (led_there (k + 1) slot here (omega (arith, room)) led)));
  }

pub agreement : (size : ℕ) (c c' : Content) (desktop : Desktop) → AgreesOnFootprint c c'
    → (Means size desktop c → Means size desktop c') × (Means size desktop c' → Means size desktop c)
agreement size c c' desktop a = (
  λ means. (means.0, agreed size c c' means.0 a means.1, means.2),
  λ means. (means.0, agreed size c' c means.0 (agrees_back c c' a) means.1, means.2),
)
