use Rattle.std.proofs.lemmas.Result.{IfOk-weaker}
use Rattle.desk_core.specs.Kept.{kept_desktop}
use Rattle.seen_desktops.proofs.Parts.{all_same, counts_same, files_same, last_decides, lists_same, marks_same, part_differs}
use Rattle.seen_desktops.proofs.Parts.{texts_same, tracks_same}
use Rattle.seen_desktops.proofs.shape.have_one_shape.Goals as goal

pub returns-then-not-have_same_marks : goal.returns-then-not-have_same_marks
returns-then-not-have_same_marks c = part_differs c.have_same_marks.ensures c.if-not-have_same_marks.true
    (marks_same (kept_desktop c.args.one.now) (kept_desktop c.args.other.now))

pub returns-then-not-have_same_counts : goal.returns-then-not-have_same_counts
returns-then-not-have_same_counts c = part_differs c.have_same_counts.ensures c.if-not-have_same_counts.true
    (counts_same (kept_desktop c.args.one.now) (kept_desktop c.args.other.now))

pub returns-then-not-have_same_lists : goal.returns-then-not-have_same_lists
returns-then-not-have_same_lists c = part_differs c.have_same_lists.ensures c.if-not-have_same_lists.true
    (lists_same (kept_desktop c.args.one.now) (kept_desktop c.args.other.now))

pub returns-then-not-have_same_tracks : goal.returns-then-not-have_same_tracks
returns-then-not-have_same_tracks c = part_differs c.have_same_tracks.ensures c.if-not-have_same_tracks.true
    (tracks_same (kept_desktop c.args.one.now) (kept_desktop c.args.other.now))

pub returns-then-not-branch : goal.returns-then-not-branch
returns-then-not-branch c = part_differs c.in_ok-are_texts_as_long.ensures c.if-not-branch.true
    (texts_same (kept_desktop c.args.one.now) (kept_desktop c.args.other.now))

pub returns : goal.returns
returns c =
    let one = kept_desktop c.args.one.now in
    let other = kept_desktop c.args.other.now in
    IfOk-weaker c.are_files_as_long.result _ _ (λ same files. last_decides files
    (all_same one other (c.have_same_marks.ensures.0 c.if-not-have_same_marks.false)
    (c.have_same_counts.ensures.0 c.if-not-have_same_counts.false)
    (c.have_same_lists.ensures.0 c.if-not-have_same_lists.false)
    (c.have_same_tracks.ensures.0 c.if-not-have_same_tracks.false)
    (c.in_ok-are_texts_as_long.ensures.0 c.if-not-branch.false))
    (files_same one other)) c.are_files_as_long.ensures
