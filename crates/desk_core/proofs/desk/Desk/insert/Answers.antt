use Rattle.std.proofs.Common.{sym, arith, ◌∙◌}
use Rattle.desk_core.specs.Kept.{kept_desktop}
use Rattle.desk_core.proofs.TextLemmas.{put_orgs, put_within, put_changed, none_put}
use Rattle.desk_core.proofs.desk.Desk.insert.Goals as goal

pub returns-then-count-eq0-clause-changed : goal.returns-then-count-eq0-clause-changed
returns-then-count-eq0-clause-changed g c =
    let s = g.S.CharSource in
    none_put (s.honest c.args.source.now) (s.characters c.args.source.now) (kept_desktop c.args.self.now) c.args.number
    c.args.pos c.args.buffer.now c.requires.at.built (sym c.len-count.ensures ∙ c.if-count-eq0.true)

pub follow-requires-clause-orgs : goal.follow-requires-clause-orgs
follow-requires-clause-orgs g c =
    put_orgs (g.S.CharSource.characters c.args.source.now) (kept_desktop c.args.self.now) c.put_in.new.texts.entries
    c.args.number c.args.pos c.args.buffer.now c.len-count.result c.len-count.ensures c.requires.at.built c.requires.at.there
    c.in_ok-put_in.ensures c.requires.goes.within

pub follow-requires-clause-offsets : goal.follow-requires-clause-offsets
follow-requires-clause-offsets g c =
    put_within (g.S.CharSource.characters c.args.source.now) (kept_desktop c.args.self.now) c.put_in.new.texts.entries
    c.args.number c.args.pos c.args.buffer.now c.len-count.result c.len-count.ensures c.requires.at.built c.requires.at.there
    c.in_ok-put_in.ensures c.requires.goes.within

pub returns-clause-changed : goal.returns-clause-changed
returns-clause-changed g c =
    let s = g.S.CharSource in
    let some = c.if-count-eq0.false in
    put_changed (s.characters c.args.source.now) (kept_desktop c.args.self.now) c.put_in.new.texts.entries c.args.number
    c.args.pos c.args.buffer.now c.len-count.result c.len-count.ensures c.requires.at.built c.requires.at.there
    c.in_ok-put_in.ensures c.requires.goes.within c.requires.goes.looks (omega (arith, some)) (s.honest c.args.source.now)
    (kept_desktop c.follow.new.self) c.follow.new.self.viewers.items c.in_ok-follow.ensures.rest c.in_ok-follow.ensures.moved
    c.in_ok-follow.ensures.exact
