-- A settle as turns: the commits of place 0 that were made, and what they left is settled with the rest of the budget. Assumes
-- nothing.
use Rattle.std.specs.Prelude.{ℕ, zero, suc, ◌+◌, ◌-◌, ◌<◌, ◌≡◌, refl, Bool, true, false, cond, List, [], ◌∷◌, eqb, length, ℤ}
use Rattle.std.proofs.Common.{sym, ap, ◌∙◌, subst, arith, ne_eqb}
use Rattle.lists.specs.Lists.{is_empty}
use Rattle.refusals.specs.Outcome.{Outcome, accepted}
use Rattle.deck.specs.Deck.{Deck}
use Rattle.deck.specs.declared.Deck as Counted
use Rattle.pool.specs.Updates.{Update}
use Rattle.pool.specs.States.{Machine}
use Rattle.passing.specs.Tabled.{deck_of}
use Rattle.firing.specs.Firing.{committed, next_place}
use Rattle.firing_commits.specs.Commits.{NextPlace}
use Rattle.calls.specs.Calls.{Answer, settled, spent, Settling, one_more, settling}
use Rattle.calls_tests.specs.Tested.{Left}
use Rattle.calls_turns.specs.Turns.{Repeats, none, more, Turned}
use Rattle.calls_settle.specs.Settled.{settled_as, Settles}

-- ---- the definition, turn by turn

-- the commits that were made before
abbrev pub afterwards : ℕ → Settling → Settling
afterwards n s = record { made = n + s.made; machine = s.machine }

abbrev pub resting : Machine → Settling
resting y = record { made = 0; machine = y }

none-pending : (us : List Update) → length us ≡ 0 → is_empty us ≡ true
unfolding is_empty
none-pending [] h = refl
none-pending (u ∷ us) h = absurd (omega arith)

some-pending : (us : List Update) → 0 < length us → is_empty us ≡ false
unfolding is_empty
some-pending [] h = absurd (omega arith)
some-pending (u ∷ us) h = refl

empty-count : (us : List Update) → is_empty us ≡ eqb (length us) 0
unfolding is_empty
empty-count [] = refl
empty-count (u ∷ us) = sym (ne_eqb (length (u ∷ us)) 0 (λ e. absurd (omega (arith, e))))

settling-rests : (d : Deck) (b : ℕ) (y : Machine) → is_empty y.pending ≡ true → settling d b y ≡ resting y
unfolding settling
settling-rests d zero y h = refl
settling-rests d (suc b) y h = rw h

settling-turn : (d : Deck) (b : ℕ) (y : Machine) → is_empty y.pending ≡ false
    → settling d (suc b) y ≡ one_more (settling d b (committed d (next_place y.pending) y).machine)
unfolding settling
settling-turn d b y h = rw h

settling-spent : (d : Deck) (y : Machine) → settling d 0 y ≡ resting y
unfolding settling
settling-spent d y = refl

one-afterwards : (n : ℕ) (s : Settling) → afterwards n (one_more s) ≡ afterwards (suc n) s
unfolding one_more
one-afterwards n s = ap (λ m. record { made = m; machine = s.machine }) (omega arith)

none-afterwards : (s : Settling) → s ≡ afterwards 0 s
none-afterwards s = ap (λ m. record { made = m; machine = s.machine }) (omega arith)

-- what is answered when n were made and nothing more is to be done
rested-answer : (n : ℕ) (y : Machine) (pending : ℕ) → pending ≡ length y.pending
    → settled_as (afterwards n (resting y)) ≡ cond (eqb pending 0) (settled n) (spent n)
unfolding settled_as
rested-answer n y pending h =
    ap (λ b. cond b (settled (n + 0)) (spent (n + 0))) (empty-count y.pending ∙ ap (λ k. eqb k 0) (sym h))
    ∙ ap (λ k. cond (eqb pending 0) (settled k) (spent k)) (omega arith)

-- ---- the turns of the code

-- nothing more is to be done: nothing is pending, or the budget is used
settling-ends : (d : Deck) (b : ℕ) (y : Machine) → (0 < b → length y.pending ≡ 0) → settling d b y ≡ resting y
settling-ends d zero y h = settling-spent d y
settling-ends d (suc b) y h = settling-rests d (suc b) y (none-pending y.pending (h (omega arith)))

-- commits of the next place are what a settle begins with
settling-repeats : {d : Deck} {p : ℕ} {x : Machine} {n : ℕ} {y : Machine} → NextPlace p → Repeats d p x n y → (b : ℕ)
    → settling d (n + b) x ≡ afterwards n (settling d b y)
settling-repeats {d} {x} next none b = ap (λ m. settling d m x) (omega arith) ∙ none-afterwards (settling d b x)
settling-repeats {d} {p} {x} next (more {n} {y} r there) b =
    ap (λ m. settling d m x) (omega arith)
    ∙ settling-repeats next r (suc b)
    ∙ ap (afterwards n) (settling-turn d b y (some-pending y.pending (omega (arith, there))))
    ∙ ap (λ q. afterwards n (one_more (settling d b (committed d q y).machine))) (sym (next y.pending))
    ∙ one-afterwards n (settling d b (committed d p y).machine)

pub turns-settle : {s : List ℕ} {C : ℕ} {vs₀ : List ℤ} {pending₀ total₀ : ℕ} {index₀ : List ℕ} {pool₀ : List ℤ} {p budget : ℕ}
    {made pending total : ℕ} {applied : Bool} {vs pool : List ℤ} {answer : Outcome Answer} → NextPlace p
    → Turned s C vs₀ pending₀ total₀ index₀ pool₀ p budget made pending total applied vs pool
    → answer ≡ accepted (cond (eqb pending 0) (settled made) (spent made))
    → Settles s C vs₀ pending₀ total₀ index₀ pool₀ budget answer vs pending pool
turns-settle {s} {p} {budget} {made} {pending} {vs} {pool} next t h x st =
    let d = deck_of s in
    let r = t.result x st in
    let y = r.0 in
    let left = r.1.1.0 in
    let rest = budget - made in
    let ends = settling-ends d rest y (λ l. omega (arith, t.ended (omega (arith, l)), left.count, next y.pending)) in
    let whole-budget : budget ≡ made + rest = omega (arith, t.within) in
    let e = ap (λ b. settling d b x) whole-budget ∙ settling-repeats next r.1.0 rest ∙ ap (afterwards made) ends in (
      h ∙ ap accepted (sym (rested-answer made y pending left.count)) ∙ ap (λ z. accepted (settled_as z)) (sym e),
      subst (λ z. Left z.machine vs pending pool) (sym e) left,
    )
