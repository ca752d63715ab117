use Rattle.std.proofs.Common.{◌≡◌, ℕ, None, List, length, ap, sym, subst, ◌∙◌, arith}
use Rattle.std.specs.Map.{keys_of}
use Rattle.std.specs.Ordering.{nat_cmp}
use Rattle.std.specs.BTreeMap.{insert_entry}
use Rattle.desktop_definitions.specs.declared.viewer.Viewer.{Viewer}
use Rattle.desktop_definitions.specs.Opening.{least_unused, new_id}
use Rattle.desktop_definitions.specs.Viewers.{viewer_in}
use Rattle.desktop_definitions.proofs.OpenLaws.{unused_none}
use Rattle.desk_core.specs.Kept.{kept_desktop}
use Rattle.desk_commands.proofs.openings.join.Goals as goal

pub unused_id-id-requires : goal.unused_id-id-requires
unused_id-id-requires c =
    let long = ap length c.as_slice.ensures.value in
    omega (arith, c.requires.viewers, long)

pub add_viewer-requires : goal.add_viewer-requires
add_viewer-requires c =
    let viewers = c.args.desk.now.viewers.items in
    subst (λ (n : ℕ). viewer_in viewers n ≡ None)
    (sym (c.unused_id-id.ensures ∙ ap (λ (l : List (ℕ × Viewer)). least_unused (keys_of l)) c.as_slice.ensures.value))
    (unused_none viewers)

pub returns-clause-desk : goal.returns-clause-desk
returns-clause-desk c =
    let d = kept_desktop c.args.desk.now in
    let id : c.unused_id-id.result ≡ new_id d
    = c.unused_id-id.ensures ∙ ap (λ (l : List (ℕ × Viewer)). least_unused (keys_of l)) c.as_slice.ensures.value in
    let viewers : c.add_viewer.new.viewers.items ≡ insert_entry nat_cmp d.viewers (new_id d)
    (record { menu = least_unused (keys_of d.texts); main = c.args.main; org = c.args.org })
    = c.in_ok-add_viewer.ensures ∙ (λ k. insert_entry nat_cmp d.viewers (id k)
    (record { menu = c.in_ok-number.ensures.number k; main = c.args.main; org = c.args.org })) in
    λ k. record d { texts = c.in_ok-number.ensures.texts k; viewers = viewers k }

pub returns-clause-id : goal.returns-clause-id
returns-clause-id c =
    c.unused_id-id.ensures ∙ ap (λ (l : List (ℕ × Viewer)). least_unused (keys_of l)) c.as_slice.ensures.value
