use Rattle.desk_page.proofs.Beginnings.{is_furnished}
use Rattle.desk_page.proofs.page.begin_new.Goals as goal

pub returns-clause-desktop : goal.returns-clause-desktop
returns-clause-desktop g c =
    let page = c.in_ok-page-in-Ok.page in
    is_furnished g.D.Disk c.showing_law.ensures c.args.disk c.in-Ok.made page.store c.furnish.new.store.desktop
    c.in-Ok.ensures.empty c.in-Ok.ensures.within c.in_ok-page-in-Ok.ensures.opened c.in_ok-page-in-Ok.ensures.disk
    c.in_ok-furnish.ensures.desktop
