-- Good states are kept: a start makes one, and every call leaves one that is handed one. Assumes nothing.
use Rattle.std.specs.Prelude.{ℕ, ◌≡◌, true, false, List, length, ℤ}
use Rattle.std.proofs.Math.Path.{refl}
use Rattle.std.proofs.Common.{sym, ◌∙◌, ap}
use Rattle.std.proofs.Math.Bool.{Bool}
use Rattle.refusals.specs.Outcome.{Outcome, refused, accepted, ◌>>=◌, ◌>>◌, require, outcomes}
use Rattle.refusals.specs.Numbers.{bad_pool, bad_state}
use Rattle.refusals.specs.Laws.Outcomes.{refused≢accepted}
use Rattle.expression.specs.Bytes.{Bytes}
use Rattle.deck.specs.declared.Form.{Form}
use Rattle.deck.specs.declared.Form.TheVariants.{New}
use Rattle.deck.specs.Deck.{Deck}
use Rattle.deck.specs.Layout.{Layout}
use Rattle.deck.proofs.Laws.Formed.{formed}
use Rattle.deck.specs.Facts.{Formed}
use Rattle.deck.proofs.Laws.Scoped.{scoped}
use Rattle.deck.specs.Facts.{Scoped}
use Rattle.graph.specs.Acyclic.{Acyclic}
use Rattle.pool.specs.Places.{capacity}
use Rattle.pool.specs.States.{Memory, load, good_length, good}
use Rattle.pool.proofs.Laws.Good.{good-stored, fine-loaded, store-load}
use Rattle.passing.specs.Check.{passing}
use Rattle.calls.specs.Calls as Calls
use Rattle.calls.specs.Calls.{Answer, started, Done, reply, tested, tested_as, opened}
use Rattle.calls.proofs.Laws.Opening.{fine-opened}
use Rattle.passing.proofs.Laws.Passes.{passes-exactly}
use Rattle.orders.specs.Calling.{Call, input, commit, settle, made, made_as}
use Rattle.orders.specs.Listed.{taken, machine_after}
use Rattle.orders.specs.Order.{EveryWithin}
use Rattle.orders.proofs.Laws.Agreement.{made-agrees}
use Rattle.orders.proofs.Laws.Taking.{taking}
use Rattle.orders.proofs.Laws.Listing.{start-fresh, handed-memory}

-- a deck that passes is well formed and has no cycle, its expressions name known channels, and its parts open within their limits
module _ (f : Form) (bytes : List ℕ) (b : Bytes bytes) (l : Layout) (passes : passing f bytes ≡ accepted l) where
  pub passed-formed : Formed l.deck
  passed-formed = formed l.deck ((passes-exactly f bytes b l).0 passes).layout.0

  pub passed-acyclic : Acyclic l.deck
  passed-acyclic = ((passes-exactly f bytes b l).0 passes).acyclic

  pub passed-scoped : Scoped l.deck
  passed-scoped = scoped l.deck ((passes-exactly f bytes b l).0 passes).layout.0

  pub passed-opens : EveryWithin l.deck (opened l.deck)
  unfolding EveryWithin opened
  passed-opens = ((passes-exactly f bytes b l).0 passes).opens

-- what a call has tested when it goes on
pub record Tested (bytes : List ℕ) (m : Memory) : Type 0 where
  pub layout : Layout
  pub passes : passing New bytes ≡ accepted layout
  pub long : good_length (length m.pool) ≡ true
  pub good_before : good layout.deck m ≡ true

module _ (bytes : List ℕ) (m : Memory) where
  tested-all : (d : Deck) → tested bytes m ≡ accepted d → Tested bytes m
  unfolding tested_as outcomes
  tested-all d h = go (passing New bytes) refl h
    where
      after : Layout → Bool → Bool → Outcome Deck
      after l b c = require b bad_pool 0 >> (require c bad_state 0 >> accepted l.deck)

      tests : (l : Layout) → passing New bytes ≡ accepted l → (b c : Bool) → good_length (length m.pool) ≡ b → good l.deck m ≡ c
          → after l b c ≡ accepted d
          → Tested bytes m
      tests l e false c f g a = refused≢accepted a
      tests l e true false f g a = refused≢accepted a
      tests l e true true f g a = record { layout = l; passes = e; long = f; good_before = g }

      go : (o : Outcome Layout) → passing New bytes ≡ o
          → (o >>= λ l. after l (good_length (length m.pool)) (good l.deck m)) ≡ accepted d
          → Tested bytes m
      go (refused n p) e a = refused≢accepted a
      go (accepted l) e a = tests l e (good_length (length m.pool)) (good l.deck m) refl refl a

  -- an answer means that all tests went well
  answered-tested : {a : Answer} (body : Deck → Outcome Done) → (reply m (tested bytes m >>= body)).answer ≡ accepted a → Tested bytes m
  unfolding reply outcomes
  answered-tested {a} body h = go (tested bytes m) refl h
    where
      go : (o : Outcome Deck) → tested bytes m ≡ o → (reply m (o >>= body)).answer ≡ accepted a → Tested bytes m
      go (refused n p) e h = refused≢accepted h
      go (accepted d) e h = tested-all d e

  pub accepted-tested : (c : Call) (a : Answer) → (made bytes m c).answer ≡ accepted a → Tested bytes m
  unfolding made_as Calls.input_as Calls.commit_as Calls.settle_as
  accepted-tested (input p l) a h = answered-tested _ h
  accepted-tested (commit k) a h = answered-tested _ h
  accepted-tested (settle b) a h = answered-tested _ h

  -- a good state stays good, whatever the call and its answer
  pub call-keeps-good : Bytes bytes → (t : Tested bytes m) → (c : Call) → good t.layout.deck (made bytes m c).memory ≡ true
  call-keeps-good b t c =
      let l = t.layout in
      let d = l.deck in
      let n = length m.pool in
      let x = load m in
      let f = fine-loaded d m t.good_before in
      let o = taken d (capacity n) x c in
      let fine = (taking d (passed-formed New bytes b l t.passes) (passed-acyclic New bytes b l t.passes) (capacity n) x f c).fine in
      ap (λ k. good d (made bytes k c).memory) (sym (store-load d m t.good_before))
      ∙ ap (λ r. good d r.memory) (made-agrees New bytes l t.passes n t.long x f c)
      ∙ ap (good d) (handed-memory n x o)
      ∙ good-stored d n (machine_after x o) fine

pub start-makes-good : (bytes : List ℕ) (pool : List ℤ) → Bytes bytes → (Calls.start bytes pool).answer ≡ accepted started
    → (l : Layout) × (passing New bytes ≡ accepted l) × (good l.deck (Calls.start bytes pool).memory ≡ true)
start-makes-good bytes pool b h =
    let fresh = start-fresh New bytes pool h in
    let l = fresh.0 in
    let n = length pool in
    let fine = fine-opened l.deck (passed-formed New bytes b l fresh.1.passes) (capacity n) in (
      l,
      fresh.1.passes,
      ap (good l.deck) fresh.1.left ∙ good-stored l.deck n (opened l.deck) fine,
    )
