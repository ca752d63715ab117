use Rattle.std.proofs.Common.{◌≡◌, ◌∙◌, Ok, rules, subst, sym}
use Rattle.char_pages.specs.Pages.{rest_of}
use Rattle.desktop_definitions.specs.Seen.{seen}
use Rattle.store_slots.proofs.Counting.{no_content}
use Rattle.desk_journal.specs.Gathering.{GatheredView, LetsGo}
use Rattle.desk_journal.specs.View.{StoreView}
use Rattle.desk_journal.proofs.Turning.{closed_let_go, only_read, shown_gathered}
use Rattle.desk_journal.proofs.store.Store.gathered.Goals as goal

pub returns-then-self-clause-left : goal.returns-then-self-clause-left
returns-then-self-clause-left g c = closed_let_go g.D.Disk _

pub returns-in_err-live-clause-left : goal.returns-in_err-live-clause-left
returns-in_err-live-clause-left g c =
    let d = g.D.Disk in
    subst (λ (x : StoreView g.row.D.Denot). LetsGo d c.from_residual.result x) c.self.view_is (record {
      disk = c.gathered.new.disk;
      read = only_read d c.gathered.ensures.disk;
      faults = search rules;
    })

pub returns-clause-shown : goal.returns-clause-shown
returns-clause-shown g c =
    let e = c.in_ok-live.ensures in
    let live = c.in_ok-live.live in
    subst (λ (x : StoreView g.row.D.Denot). g.D.Disk.honest x.disk → seen (rest_of live.pages) live.desktop ≡ x.desktop)
    c.self.view_is
    (λ honest. sym (shown_gathered no_content live e.gathered) ∙ e.shown honest no_content)

pub returns-clause-left : goal.returns-clause-left
returns-clause-left g c =
    let d = g.D.Disk in
    let live = c.in_ok-live.live in
    let shown : GatheredView = record {
      desktop = seen (rest_of live.pages) live.desktop;
      kept = live.desktop;
    } in
    subst (λ (x : StoreView g.row.D.Denot). LetsGo d (Ok shown) x) c.self.view_is (record {
      disk = c.gathered.new.disk;
      read = only_read d c.gathered.ensures.disk;
      faults = search rules;
    })
