use Rattle.desk_views.proofs.views.shown_of.Goals as goal

pub shown_as-requires-clause-there : goal.shown_as-requires-clause-there
shown_as-requires-clause-there c = c.requires.there _ _ c.loop-entry-test.true
