use Rattle.session_tests.proofs.nest.Run.+nest.Given as goal

abbrev pub decreases-nest : goal.decreases-nest
decreases-nest g l = l.depth
