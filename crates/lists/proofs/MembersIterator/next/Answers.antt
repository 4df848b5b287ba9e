-- `Members::next` meets its contract. Assumes nothing.
use mathlib.Core.Path.{refl}
use native.Mathlib.Omega.{arith}
use borrow.Author.Rules.{rules}
use Rattle.lists.specs.Laws.Iterating.{lowest-is, nearer}
use Rattle.lists.proofs.MembersIterator.next.Goals as goal

pub returns-then-min-c-clause-steps : goal.returns-then-min-c-clause-steps
returns-then-min-c-clause-steps c =
    let e = lowest-is c.lowest-c.ensures in
    ((omega (arith, e, c.min.ensures, c.if-min-c.true), refl), refl)

pub returns-clause-steps : goal.returns-clause-steps
returns-clause-steps c =
    ((lowest-is c.lowest-c.ensures, omega (arith, c.min.ensures, c.if-min-c.false), omega (arith, c.min.ensures, c.if-min-c.false), c.rest-self.ensures), refl)

pub returns-clause-goes : goal.returns-clause-goes
returns-clause-goes c =
    let n = nearer c.lowest-c.ensures (omega (arith, c.min.ensures, c.if-min-c.false)) c.rest-self.ensures in
    search rules
