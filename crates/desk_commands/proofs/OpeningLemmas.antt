-- What an opening counts, and where its viewer comes into the table.
use Rattle.std.proofs.Common.{◌≡◌, ℕ, suc, ◌+◌, ◌≤◌, Bool, true, false, cond, not, ◌==◌, nat_lt, List, []}
use Rattle.std.proofs.Common.{◌∷◌}
use Rattle.std.proofs.Common.{length, Option, Some, None, refl, ap, sym, subst, ◌∙◌, arith, ⊎_elim, ◌||◌}
use Rattle.std.specs.Prelude.{insert, if◌then◌else◌}
use Rattle.std.specs.List.{position_or_len}
use Rattle.std.specs.Map.{lookup}
use Rattle.std.specs.Ordering.{nat_cmp, match_ordering, is_eq}
use Rattle.std.specs.declared.cmp.Ordering.TheVariants.{Less, Equal, Greater}
use Rattle.std.specs.BTreeMap.{is_at, insert_entry}
use Rattle.std.proofs.lemmas.Bool.{cases_lt, ne_eqb}
use Rattle.std.proofs.lemmas.List.Sums.{sum_by-cons}
use Rattle.piece_ring.specs.declared.piece.Piece.{Piece}
use Rattle.piece_ring.specs.Flat.{flat}
use Rattle.viewer_tracks.specs.Columns.{Columns, IsPlaced, times_placed, times_meant}
use Rattle.desktop_definitions.specs.declared.viewer.Viewer.{Viewer}
use Rattle.desktop_definitions.specs.declared.reply.Reply.{Reply}
use Rattle.desktop_definitions.specs.Tables.{Texts, lengths}
use Rattle.desktop_definitions.proofs.TableLaws.{lengths_seen, length_seen_text}
use Rattle.desktop_definitions.specs.Desktop.{Desktop, KeptDesktop, characters_held}
use Rattle.desktop_definitions.specs.Opening.{new_id, new_number, with_new, with_viewer, after_opening, opening_on, without_unshown}
use Rattle.desktop_definitions.specs.Outcome.{IsAnswered}
use Rattle.desktop_definitions.specs.Seen.{seen, seen_table}
use Rattle.desktop_definitions.specs.Sound.{IsKeptWhole}
use Rattle.desktop_definitions.proofs.OpeningDone.{opened_desk, written_opened}
use Rattle.desktop_definitions.specs.DeskWords.{CanOpen, kept_left, still_shown}
use Rattle.desktop_definitions.proofs.LeftLaws.{held_left, left_fewer}
use Rattle.desktop_definitions.specs.Call.{text_called}
use Rattle.desktop_definitions.specs.Viewers.{text_in, without_viewer, viewer_or_none}
use Rattle.desktop_definitions.specs.Limits.{most_held}
use Rattle.desktop_definitions.specs.Step.{Outcome}

-- ---- a loop that counts

pub left_step : (test : ℕ → Bool) (sum weight : ℕ) (e : ℕ × List Piece) (rest now : Texts (List Piece)) (all : ℕ)
    → weight ≡ (if test e.0 then length (flat e.1) else 0) → now ≡ e ∷ rest → sum + kept_left test now ≡ all
    → sum + weight + kept_left test rest ≡ all
left_step test sum weight e rest now all is next before =
    let cons = sum_by-cons (λ (x : ℕ × List Piece). (let n : ℕ = if test x.0 then length
    (flat x.1) else 0 in n)) e rest in
    let whole = ap (kept_left test) next in
    omega (arith, cons, whole, is, before)

-- ---- a viewer of a new id

pub put_at : (id : ℕ) (v : Viewer) (es : List (ℕ × Viewer)) → lookup (is_at (nat_cmp id)) es ≡ None
    → insert es (position_or_len (λ e. nat_lt id e.0) es) (id, v) ≡ insert_entry nat_cmp es id v
put_at id v [] none = refl
put_at id v (e ∷ es) none = (elim (nat_lt id e.0) as
    (λ b. (let o : Option Viewer = cond (is_eq (cond b Less (cond (id == e.0) Equal Greater))) (Some e.1)
    (lookup (is_at (nat_cmp id)) es) in o) ≡ None
    → insert (e ∷ es) (cond (not b) (1 + position_or_len (λ e. nat_lt id e.0) es) 0) (id, v)
    ≡ match_ordering (cond b Less (cond (id == e.0) Equal Greater)) ((id, v) ∷ e ∷ es) ((e.0, v) ∷ es)
    (e ∷ insert_entry nat_cmp es id v)) [
      | true ↦ λ none. refl
      | false ↦ λ none. (elim (id == e.0) as
          (λ b. (let o : Option Viewer = cond (is_eq (cond b Equal Greater)) (Some e.1)
          (lookup (is_at (nat_cmp id)) es) in o) ≡ None
          → insert (e ∷ es) (1 + position_or_len (λ e. nat_lt id e.0) es) (id, v)
          ≡ match_ordering (cond b Equal Greater) ((id, v) ∷ e ∷ es) ((e.0, v) ∷ es)
          (e ∷ insert_entry nat_cmp es id v)) [
            | true ↦ λ none. absurd cc
            | false ↦ λ none.
                (let next : 1 + position_or_len (λ e. nat_lt id e.0) es ≡ suc (position_or_len (λ e. nat_lt id e.0) es)
                = omega arith in
                ap (λ (n : ℕ). insert (e ∷ es) n (id, v)) next
                ∙ ap (λ (l : List (ℕ × Viewer)). e ∷ l) (put_at id v es none))
          ]) none
    ]) none

-- ---- what the desktop holds without a viewer

pub left_is : (d : KeptDesktop) → IsKeptWhole d → (taken : Option ℕ) (characters : List ℕ)
    (texts files copied deleted : ℕ)
    → texts ≡ kept_left (λ n. (n == 0) || still_shown taken d.viewers n) d.texts
    → files ≡ lengths (seen_table characters d.files)
    → copied ≡ length (flat d.copied) → deleted ≡ length (flat d.deleted)
    → texts + files + copied + deleted ≡ characters_held (without_unshown (without_viewer (seen characters d) taken))
unfolding seen
left_is d whole taken characters texts files copied deleted t f c e =
    let sum = held_left d taken characters (whole.sound characters).shaped.viewers.ids in
    omega (arith, sum, t, f, c, e)

pub left_low : (d : KeptDesktop) → IsKeptWhole d → (taken : Option ℕ) (texts files copied deleted : ℕ)
    → texts ≡ kept_left (λ n. (n == 0) || still_shown taken d.viewers n) d.texts
    → files ≡ lengths (seen_table [] d.files)
    → copied ≡ length (flat d.copied) → deleted ≡ length (flat d.deleted)
    → texts + files + copied + deleted ≤ most_held
unfolding characters_held seen
left_low d whole taken texts files copied deleted t f c e =
    let few = left_fewer (λ n. (n == 0) || still_shown taken d.viewers n) d.texts in
    let all = lengths_seen [] d.texts in
    let copied_long = length_seen_text [] d.copied in
    let deleted_long = length_seen_text [] d.deleted in
    let low = (whole.sound []).held_within in
    omega (arith, few, all, copied_long, deleted_long, low, t, f, c, e)

-- ---- the new viewer

-- the viewer that an opening replaces is not the new one
pub not_taken : (columns after : Columns) (v : ℕ) (taken : Option ℕ) → ¬ IsPlaced v columns
    → times_placed v after + times_meant v taken ≡ times_placed v columns + times_meant v (Some (v + 1))
    → times_meant v taken ≡ 0
not_taken columns after v taken fresh sum =
    let none : times_placed v columns ≡ 0 =
    ⊎_elim (λ some. absurd (fresh some)) (λ no. omega (arith, no)) (cases_lt 0 (times_placed v columns)) in
    let other : times_meant v (Some (v + 1)) ≡ 0 = rw (ne_eqb (v + 1) v (λ same. absurd (omega (arith, same)))) refl in
    omega (arith, sum, none, other)

-- it stands nowhere once it has joined
pub stands_nowhere : (d joined : KeptDesktop) (menu : List Piece) (main org id : ℕ) → CanOpen d
    → joined ≡ with_viewer d menu main org → id ≡ new_id d → ¬ IsPlaced id joined.columns
stands_nowhere d joined menu main org id can is id_is = λ placed.
    can.fresh (subst (λ (e : ℕ × Columns). IsPlaced e.0 e.1) (λ k. (id_is k, (is k).columns)) placed)

-- ---- the tool

pub no_name : (name : List ℕ) → None ≡ Some name → ⊥
no_name name is = cc

pub same_name : (name other : List ℕ) → Some name ≡ Some other → name ≡ other
same_name name other is = cc

-- ---- what an opening leaves

-- what is answered of a desktop is answered of one that equals it
pub answered_there : {H : Type 0} {old new : List ℕ} {d x y : KeptDesktop} {outcome : Outcome} {reply : Reply}
    → y ≡ x → IsAnswered H old new d x outcome reply → IsAnswered H old new d y outcome reply
answered_there {H = H} {old = old} {new = new} {d = d} {outcome = outcome} {reply = reply} is =
    subst (λ (z : KeptDesktop). IsAnswered H old new d z outcome reply) (sym is)

-- a new viewer on a new text, and the characters of its menu counted
pub opened_counted : (d after : KeptDesktop) (texts : Texts (List Piece)) (number : ℕ) (menu main : List Piece)
    (cell : ℕ × ℕ) (n : ℕ) → texts ≡ with_new d.texts main → number ≡ new_number d
    → after ≡ without_unshown (opening_on (record d { texts = texts }) menu number 0 cell)
    → record after { written = after.written + n } ≡ record (without_unshown (after_opening d menu main cell)) {
      written = d.written + n;
    }
opened_counted d after texts number menu main cell n texts_is number_is is =
    let opened = opened_desk d after texts number menu main cell texts_is number_is is in
    let written : after.written ≡ d.written
    = ap (λ (x : KeptDesktop). x.written) opened ∙ written_opened d menu main cell in
    λ k. record (opened k) { written = written k + n }

-- the menu of a viewer
pub menu_is : (d : KeptDesktop) (v : ℕ) {viewer : Viewer} {menu : List Piece} → viewer ≡ viewer_or_none d.viewers v
    → menu ≡ text_called d v true → flat menu ≡ flat (text_in d.texts viewer.menu)
menu_is d v is same =
    ap (λ (pieces : List Piece). flat pieces) same ∙ ap (λ (x : Viewer). flat (text_in d.texts x.menu)) (sym is)
