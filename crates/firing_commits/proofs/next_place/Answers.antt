-- `firing_commits::next_place` meets its contract. Assumes nothing.
use mathlib.Core.Path.{refl}
use Rattle.firing_commits.proofs.next_place.Goals as goal

pub returns : goal.returns
returns c us = refl
