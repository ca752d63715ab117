use Rattle.std.proofs.Common.{◌≡◌, ◌∙◌, ◌++◌, ap, subst, sym}
use Rattle.char_pages.specs.declared.pages.Pages.{Pages}
use Rattle.char_pages.specs.Pages.{IsTrueOf, rest_of, saved_of, renewed_of, paged_characters}
use Rattle.desktop_definitions.specs.Seen.{seen}
use Rattle.store_slots.proofs.Counting.{no_content, over_pages}
use Rattle.store_slots.proofs.Gathered.{all_counted, paged_gathered}
use Rattle.store_slots.proofs.live.LiveDesktop.gathered.Goals as goal

pub over-requires-clause-over : goal.over-requires-clause-over
over-requires-clause-over g c =
    let e = c.in_ok-gathered.ensures in
    let p = c.args.self.pages in
    let q = c.in_ok-gathered.gathered in
    let front = c.in_ok-all.all.items in
    let over = c.requires.on.live.over no_content in
    let rest : rest_of q ≡ front ++ rest_of p = e.rest ∙ c.deref.ensures.value
    ∙ c.in_ok-extend_from_slice.ensures.items ∙ ap (λ l. front ++ l) c.rest.ensures in
    over_pages q c.args.self.desktop over.whole
    (all_counted no_content p q front c.saved_sectors.result c.args.self.desktop.written over.counted
    c.in_ok-all.ensures.long c.saved_sectors.ensures e.saved rest)

pub returns-clause-gathered : goal.returns-clause-gathered
returns-clause-gathered g c =
    let e = c.in_ok-gathered.ensures in
    let done = c.over.ensures in
    record {
      live = done.live;
      none_saved = ap saved_of done.pages ∙ e.saved;
      here = ap renewed_of done.pages ∙ e.renewed;
      empty = record {
        told = λ content. subst (IsTrueOf content) (sym done.pages) (e.told content);
        lines = done.lines;
      };
    }

pub returns-clause-shown : goal.returns-clause-shown
returns-clause-shown g c = λ honest content.
    let e = c.in_ok-gathered.ensures in
    let p = c.args.self.pages in
    let q = c.in_ok-gathered.gathered in
    let front = c.in_ok-all.all.items in
    let rest : rest_of q ≡ front ++ rest_of p = e.rest ∙ c.deref.ensures.value
    ∙ c.in_ok-extend_from_slice.ensures.items ∙ ap (λ l. front ++ l) c.rest.ensures in
    let same = ap (λ (x : Pages). paged_characters content x) c.over.ensures.pages
    ∙ paged_gathered content _ p q c.args.self.area c.saved_sectors.result front c.requires.on.live.based
    c.saved_sectors.ensures e.saved rest (c.in_ok-all.ensures.bytes honest) in
    λ i. seen (same i) (c.over.ensures.desktop i)
