use Rattle.desk_core.specs.Kept.{kept_desktop}
use Rattle.desk_core.proofs.TextLemmas.{cut_there, cut_orgs, cut_within, cut_changed}
use Rattle.desk_core.proofs.desk.Desk.delete.Goals as goal

pub follow-requires-clause-there : goal.follow-requires-clause-there
follow-requires-clause-there g c =
    cut_there (g.S.CharSource.characters c.args.source.now) (kept_desktop c.args.self.now) c.take_out.new.texts.entries
    c.args.number c.args.beg c.args.end c.requires.some c.requires.at.place c.requires.at.built c.requires.at.there
    c.in_ok-taken.ensures.text

pub follow-requires-clause-orgs : goal.follow-requires-clause-orgs
follow-requires-clause-orgs g c =
    cut_orgs (g.S.CharSource.characters c.args.source.now) (kept_desktop c.args.self.now) c.take_out.new.texts.entries
    c.args.number c.args.beg c.args.end c.requires.some c.requires.at.place c.requires.at.built c.requires.at.there
    c.in_ok-taken.ensures.text

pub follow-requires-clause-offsets : goal.follow-requires-clause-offsets
follow-requires-clause-offsets g c =
    cut_within (g.S.CharSource.characters c.args.source.now) (kept_desktop c.args.self.now) c.take_out.new.texts.entries
    c.args.number c.args.beg c.args.end c.requires.some c.requires.at.place c.requires.at.built c.requires.at.there
    c.in_ok-taken.ensures.text

pub returns-clause-changed : goal.returns-clause-changed
returns-clause-changed g c =
    let s = g.S.CharSource in
    cut_changed (s.characters c.args.source.now) (kept_desktop c.args.self.now) c.take_out.new.texts.entries c.args.number
    c.args.beg c.args.end c.requires.some c.requires.at.place c.requires.at.built c.requires.at.there
    c.in_ok-taken.ensures.text (s.honest c.args.source.now) (kept_desktop c.follow.new.self) c.follow.new.self.viewers.items
    c.in_ok-follow.ensures.rest
    c.in_ok-follow.ensures.moved c.in_ok-follow.ensures.exact
