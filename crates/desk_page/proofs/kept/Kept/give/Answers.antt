use Rattle.std.proofs.Common.{◌≡◌, ◌∙◌, ℕ, List, ap, refl}
use Rattle.std.proofs.lemmas.Result.{IfOk-weaker}
use Rattle.event_bytes.specs.Bytes.{is_name}
use Rattle.desk_page.specs.Calls.{asked, no_name_of, nothing_kept}
use Rattle.desk_page.specs.Giving.{given_text}
use Rattle.desk_page.specs.Looks.{shown_desktop}
use Rattle.page_disks.specs.contracts.disk.RecordedDiskDisk.TheImpl.{ghosts}
use Rattle.desk_page.proofs.Keeping.{is_asked, named_so, tells_none, unnamed}
use Rattle.desk_page.proofs.kept.Kept.give.Goals as goal

pub returns-in_default-clause-answers : goal.returns-in_default-clause-answers
returns-in_default-clause-answers c =
    no_name_of (unnamed c.args.name.now (is_name c.args.name.now) c.new.result c.new.ensures c.in_default.is)
    (record {
      desk = refl;
      text = refl;
      untold = record { calls = c.clear.ensures.items; drawing = refl; line = refl; rings = refl };
    })

pub returns-in_default-desk-clause-answers : goal.returns-in_default-desk-clause-answers
returns-in_default-desk-clause-answers c = asked 5 (nothing_kept c.in_default-desk.is (record {
  desk = refl;
  text = refl;
  untold = record { calls = c.clear.ensures.items; drawing = refl; line = refl; rings = refl };
}))

pub returns-clause-answers : goal.returns-clause-answers
returns-clause-answers c =
    let same : c.in-Some.name ≡ c.args.name.now =
    named_so c.args.name.now c.in-Some.name (is_name c.args.name.now) c.new.result c.new.ensures c.in-Some.is in
    asked c.tell.result (is_asked ghosts c.give-found.result c.tell.new.self.text (λ bytes. bytes.items)
    (given_text c.args.name.now) c.args.self.now c.tell.new.self c.tell.result
    (record {
      before = c.in-Some-desk.desk;
      was = c.in-Some-desk.is;
      after = c.give-found.new.self;
      looks = c.give-found.ensures.looked;
      kept = c.tell.ensures.desk;
      untold = tells_none c.args.self.now c.tell.new.self _ c.tell.ensures.scene c.clear.ensures.items refl refl refl;
    })
    refl
    (IfOk-weaker c.give-found.result _ _
    (λ text told. told ∙ ap (λ (n : List ℕ). given_text n (shown_desktop c.in-Some-desk.desk)) same)
    c.give-found.ensures.given)
    c.give-found.ensures.errors c.tell.ensures.given c.tell.ensures.missing c.tell.ensures.failed)
