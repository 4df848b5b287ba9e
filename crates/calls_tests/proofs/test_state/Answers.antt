-- `calls_tests::test_state` meets its contract: 9, and then 10. Assumes nothing.
use mathlib.Core.Path.{◌≡◌, refl, sym, ap, ◌∙◌}
use mathlib.Core.Logic.{inl, inr}
use Rattle.refusals.specs.Declined.{number_of, unplaced}
use Rattle.refusals.specs.declared.Refusal.{Refusal}
use Rattle.refusals.specs.declared.Declined.{Declined}
use Rattle.pool_states.specs.Laws.Indexing.{roomy-same}
use Rattle.calls_tests.proofs.test_state.Goals as goal

-- a refusal that names no place
numbered : {d : Declined} {r : Refusal} → d ≡ unplaced r → (d.place ≡ 0) × (number_of d.refusal ≡ number_of r)
numbered e = (ap (λ d. d.place) e, ap (λ d. number_of d.refusal) e)

pub returns-then-not-good_length : goal.returns-then-not-good_length
returns-then-not-good_length c =
    let n = numbered c.unplaced.ensures in
    (n.0, inl (n.1, sym c.good_length.ensures ∙ c.if-not-good_length.true))

pub good_state-requires : goal.good_state-requires
good_state-requires c =
    let long = sym c.good_length.ensures ∙ c.if-not-good_length.false in
    (c.requires.0, c.requires.1, long, c.requires.2 long)

pub returns-in-Some : goal.returns-in-Some
returns-in-Some c =
    let long = sym c.good_length.ensures ∙ c.if-not-good_length.false in
    let e = c.good_state.ensures in (
      refl,
      long,
      sym c.in-Some.is ∙ e.answer,
      e.memo,
      e.indexes.indexed (_, c.in-Some.is),
      roomy-same e.indexes.long (c.requires.2 long).roomy,
      refl,
    )

pub returns-in-None : goal.returns-in-None
returns-in-None c =
    let n = numbered c.unplaced-in-None.ensures in (
      n.0,
      inr (n.1, sym c.good_length.ensures ∙ c.if-not-good_length.false, sym c.in-None.is ∙ c.good_state.ensures.answer),
    )
