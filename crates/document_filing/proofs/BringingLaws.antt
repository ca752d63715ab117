-- Laws of documents that come together: a sound desktop stays sound.
use Rattle.std.specs.Prelude.{◌≡◌, ℕ, IsTrue, true, false, List, [], ◌∷◌}
use Rattle.std.specs.Prelude.{Ok, Err, Result, if◌then◌else◌}
use Rattle.std.proofs.Common.{refl, sym, ap, arith, subst}
use Rattle.std.proofs.lemmas.Bool.{leb-true}
use Rattle.std.proofs.lemmas.Cmp.{nat_cmp_total, lists_total}
use Rattle.std.proofs.lemmas.List.Elements.{All-tail}
use Rattle.std.proofs.lemmas.Map.Views.{All-keys-insert_entry}
use Rattle.piece_ring.specs.Text.{Text}
use Rattle.event_bytes.specs.Bytes.{is_name}
use Rattle.desktop_definitions.specs.declared.reply.Reply.TheVariants.{Done, No}
use Rattle.desktop_definitions.specs.Limits.{too_many_files, full}
use Rattle.desktop_definitions.specs.Tables.{name_cmp}
use Rattle.desktop_definitions.specs.Desktop.{Desktop}
use Rattle.desktop_definitions.specs.Opening.{without_unshown}
use Rattle.desktop_definitions.specs.Change.{plain_text}
use Rattle.desktop_definitions.specs.Looks.{AreLooks}
use Rattle.desktop_definitions.specs.Sound.{IsSound}
use Rattle.desktop_definitions.specs.Step.{Outcome, filed, fits, outcome_after, outcome_of}
use Rattle.desktop_definitions.proofs.TableLaws.{rising_put}
use Rattle.desktop_definitions.proofs.LookedLaws.{looks_stay, put_looks}
use Rattle.desktop_definitions.proofs.PartSound.{plain_looks}
use Rattle.desktop_definitions.proofs.StepLaws.{AllShown, settled_done, settled_full, fit_written, fit_held}
use Rattle.document_filing.specs.Gathered.{AreNamed, IsLoose}
use Rattle.document_filing.specs.Bringing.{Documents, all_filed, has_few_files, all_brought, brought_in}

pub sound_loose : (d : Desktop) → IsSound d → IsLoose d
sound_loose d sound = record {
  viewers = sound.shaped.viewers;
  places = sound.shaped.places;
  marks = sound.shaped.marks;
  marker = sound.shaped.marker;
  names = sound.shaped.files.names;
  rising = sound.shaped.files.rising;
  pattern = sound.shaped.pattern;
  looks = sound.shaped.looks;
  shown = sound.shown;
}

pub loose_sound : (d : Desktop) → IsLoose d → has_few_files d ≡ true → fits d ≡ true → IsSound d
loose_sound d loose few fit = record {
  shaped = record {
    viewers = loose.viewers;
    places = loose.places;
    marks = loose.marks;
    marker = loose.marker;
    files = record { names = loose.names; rising = loose.rising; few = leb-true _ _ few };
    pattern = loose.pattern;
    looks = loose.looks;
  };
  shown = loose.shown;
  written_within = fit_written d fit;
  held_within = fit_held d fit;
}

-- a file more
pub filed_loose : (d : Desktop) (name : List ℕ) (text : Text ℕ) → IsLoose d → IsTrue (is_name name) → AreLooks text
    → IsLoose (filed d name text)
unfolding filed
filed_loose d name text loose valid looks = record {
  viewers = loose.viewers;
  places = loose.places;
  marks = loose.marks;
  marker = loose.marker;
  names = All-keys-insert_entry name_cmp name text (λ name. IsTrue (is_name name)) d.files loose.names valid;
  rising = rising_put (lists_total nat_cmp_total) name text d.files loose.rising;
  pattern = loose.pattern;
  looks = looks_stay (put_looks d loose.looks name text looks) refl;
  shown = loose.shown;
}

pub all_filed_loose : (d : Desktop) (documents : Documents) → IsLoose d → AreNamed documents
    → IsLoose (all_filed d documents)
unfolding all_filed
all_filed_loose d [] loose named = loose
all_filed_loose d (x ∷ xs) loose named =
    all_filed_loose (filed d x.0 (plain_text x.1)) xs
    (filed_loose d x.0 (plain_text x.1) loose (named 0 x (omega arith)) (plain_looks x.1))
    (All-tail (λ (document : List ℕ × List ℕ). IsTrue (is_name document.0)) x xs named)

pub all_filed_shown : (d : Desktop) (documents : Documents) → AllShown d → AllShown (all_filed d documents)
unfolding all_filed filed
all_filed_shown d [] shown = shown
all_filed_shown d (x ∷ xs) shown = all_filed_shown (filed d x.0 (plain_text x.1)) xs shown

-- ---- the three outcomes

module _ (d : Desktop) (documents : Documents) where
  abbrev new : Desktop
  new = all_filed d documents

  pub brought_many : has_few_files (all_filed d documents) ≡ false
      → outcome_of d (No too_many_files) ≡ outcome_after d (all_brought d documents)
  unfolding all_brought outcome_after
  brought_many many = rw many refl

  pub brought_full : has_few_files (all_filed d documents) ≡ true → AllShown (all_filed d documents)
      → fits (all_filed d documents) ≡ false → outcome_of d (No full) ≡ outcome_after d (all_brought d documents)
  unfolding all_brought
  brought_full few shown unfit = rw few (sym (settled_full d new shown unfit))

  pub brought_done : has_few_files (all_filed d documents) ≡ true → AllShown (all_filed d documents)
      → fits (all_filed d documents) ≡ true
      → outcome_of (all_filed d documents) Done ≡ outcome_after d (all_brought d documents)
  unfolding all_brought
  brought_done few shown fit = rw few (sym (settled_done d new shown fit))

-- A sound desktop is sound with documents that came.
pub brought_sound : (d : Desktop) (documents : Documents) → IsSound d → AreNamed documents
    → IsSound (brought_in d documents).desktop
unfolding brought_in
brought_sound d documents sound named =
    let new = all_filed d documents in
    let loose = all_filed_loose d documents (sound_loose d sound) named in
    (elim (has_few_files new) as (λ b. has_few_files new ≡ b → IsSound (outcome_after d (all_brought d documents)).desktop) [
      | false ↦ λ many. subst (λ (o : Outcome). IsSound o.desktop) (brought_many d documents many) sound
      | true ↦ λ few. (elim (fits new) as (λ b. fits new ≡ b → IsSound (outcome_after d (all_brought d documents)).desktop) [
        | false ↦ λ unfit. subst (λ (o : Outcome). IsSound o.desktop) (brought_full d documents few loose.shown unfit)
            sound
        | true ↦ λ fit. subst (λ (o : Outcome). IsSound o.desktop) (brought_done d documents few loose.shown fit)
            (loose_sound new loose few fit)
      ]) refl
    ]) refl

-- A refusal leaves the desktop.
refusal_stays : (d new : Desktop) (code : ℕ) (r : Result Desktop ℕ) → outcome_of new (No code) ≡ outcome_after d r → new ≡ d
unfolding outcome_after
refusal_stays d new code (Err c) same = ap (λ (o : Outcome). o.desktop) same
refusal_stays d new code (Ok x) same = (elim (fits (without_unshown x)) as (λ b. outcome_of new (No code)
    ≡ (let o : Outcome = if b then outcome_of (without_unshown x) Done else outcome_of d (No full) in o) → new ≡ d) [
      | true ↦ λ is. absurd (cc (ap (λ (o : Outcome). o.reply) is))
      | false ↦ λ is. ap (λ (o : Outcome). o.desktop) is
    ]) same

pub refused_same : (d new : Desktop) (documents : Documents) (code : ℕ)
    → outcome_of new (No code) ≡ brought_in d documents → new ≡ d
unfolding brought_in
refused_same d new documents code is = refusal_stays d new code (all_brought d documents) is
