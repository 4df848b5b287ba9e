-- What a host sees that hands to each call what the last one handed back. Each step is the equation of a published call's
-- contract, so that the order theorem holds of what the code hands back. Assumes nothing.
use Rattle.std.specs.Prelude.{ℕ, ◌<◌, ◌≡◌, refl, true, List, [], ◌∷◌, length, ℤ}
use Rattle.std.proofs.Common.{sym, ◌∙◌, ap, ap₂}
use Rattle.refusals.specs.Outcome.{Outcome, accepted}
use Rattle.expression.specs.Bytes.{Bytes}
use Rattle.deck.specs.declared.Form.TheVariants.{New}
use Rattle.deck.specs.Deck.{N}
use Rattle.deck.specs.Layout.{Layout}
use Rattle.pool.specs.Places.{capacity}
use Rattle.pool.specs.States.{Memory, store}
use Rattle.passing.specs.Check.{within, passing}
use Rattle.calls.specs.Calls as Calls
use Rattle.calls.specs.Calls.{Answer, started, Reply, opened}
use Rattle.orders.specs.Calling.{Call, made, run_from, run_from_as, run_as}
use Rattle.orders.specs.Listed.{listed}
use Rattle.orders.specs.Order.{EveryWithin, EndsWithin, Order}
use Rattle.orders.proofs.Laws.Listing.{along-ends}
use Rattle.orders.proofs.Laws.Kept.{passed-opens}
use Rattle.orders.proofs.Laws.Order.{order}

-- an answer, with what the host then holds
abbrev pub replied : Outcome Answer → Memory → Reply
replied a m = record { answer = a; memory = m }

-- memory at first, the calls, their answers, and the memory in the end
pub data Trace (bytes : List ℕ) : Memory → List Call → List (Outcome Answer) → Memory → Type 0 where
  ends : {m : Memory} → Trace bytes m [] [] m
  calls : {m m' end : Memory} {c : Call} {cs : List Call} {a : Outcome Answer} {later : List (Outcome Answer)}
      → replied a m' ≡ made bytes m c → Trace bytes m' cs later end → Trace bytes m (c ∷ cs) (a ∷ later) end

trace-runs : (bytes : List ℕ) (m : Memory) (cs : List Call) (seen : List (Outcome Answer)) (end : Memory)
    → Trace bytes m cs seen end → (seen ≡ (run_from bytes m cs).answers) × (end ≡ (run_from bytes m cs).memory)
unfolding run_from_as
trace-runs bytes m cs seen end (ends) = (refl, refl)
trace-runs bytes m cs seen end (calls {m' = m'} {cs = rest} {later = later} e t) =
    let r = trace-runs bytes m' rest later end t in
    let same = ap (λ k. k.memory) e in (
      ap₂ (λ a l. a ∷ l) (ap (λ k. k.answer) e) (r.0 ∙ ap (λ k. (run_from bytes k rest).answers) same),
      r.1 ∙ ap (λ k. (run_from bytes k rest).memory) same,
    )

-- what the host sees is what the definition of the list has, and the sentences of demand 3 hold
pub record HostSees (bytes : List ℕ) (pool : List ℤ) (cs : List Call) (seen : List (Outcome Answer)) (end : Memory) : Type 0 where
  pub layout : Layout
  pub passes : passing New bytes ≡ accepted layout
  pub answers : seen ≡ (listed layout.deck (length pool) cs).answers
  pub memory : end ≡ store (length pool) (listed layout.deck (length pool) cs).machine
  pub ordered : Order bytes layout.deck pool cs

-- for every trace of calls after an accepted start
pub order-seen : (bytes : List ℕ) (pool : List ℤ) → Bytes bytes
    → (m : Memory) → replied (accepted started) m ≡ Calls.start bytes pool
    → (cs : List Call) (seen : List (Outcome Answer)) (end : Memory) → Trace bytes m cs seen end → HostSees bytes pool cs seen end
unfolding run_as
order-seen bytes pool b m s cs seen end t =
    let o = order bytes pool b (sym (ap (λ k. k.answer) s)) in
    let r = trace-runs bytes m cs seen end t in
    let first = ap (λ k. k.memory) s in
    let all = o.2 cs in
    record {
      layout = o.0;
      passes = o.1;
      answers = r.0 ∙ ap (λ k. (run_from bytes k cs).answers) first ∙ all.answers;
      memory = r.1 ∙ ap (λ k. (run_from bytes k cs).memory) first ∙ all.memory;
      ordered = all;
    }

-- "after every call in the list, every part is within its limit", of the values that the host then holds: what a call leaves is the end
-- of the trace up to it
pub within-seen : (bytes : List ℕ) (pool : List ℤ) → Bytes bytes
    → (m : Memory) → replied (accepted started) m ≡ Calls.start bytes pool
    → (cs : List Call) (seen : List (Outcome Answer)) (end : Memory) → Trace bytes m cs seen end
    → (l : Layout) × (passing New bytes ≡ accepted l) × ((p : ℕ) → p < N l.deck → within l.deck p end.state.values ≡ true)
unfolding listed EveryWithin EndsWithin opened store
within-seen bytes pool b m s cs seen end t =
    let o = order-seen bytes pool b m s cs seen end t in
    let d = o.layout.deck in
    let opens = passed-opens New bytes b o.layout o.passes in
    let ends = along-ends d (capacity (length pool)) (EveryWithin d) (opened d) opens cs o.ordered.parts_within in
    (o.layout, o.passes, λ p low. ap (λ k. within d p k.state.values) o.memory ∙ ends p low)
