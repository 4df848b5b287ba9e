-- Demand 3, with the sentence of document 02's Req 01. Assumes nothing.
use Rattle.std.specs.Prelude.{ℕ, ◌≡◌, List, ℤ}
use Rattle.refusals.specs.Outcome.{accepted}
use Rattle.expression.specs.Bytes.{Bytes}
use Rattle.deck.specs.declared.Form.TheVariants.{New}
use Rattle.deck.specs.Layout.{Layout}
use Rattle.passing.specs.Check.{passing}
use Rattle.calls.specs.Calls.{start, started}
use Rattle.orders.specs.Calling.{Call}
use Rattle.orders.specs.Order.{Order}
use Rattle.orders.proofs.Laws.Listing.{start-fresh, ordered}
use Rattle.orders.proofs.Laws.Kept.{passed-formed, passed-acyclic, passed-scoped, passed-opens}

-- For every deck, pool length, former content of the pool and list of input, commit and settle calls, any numbers in them,
-- after an accepted start: all sentences of demand 3 and that of Req 01
pub order : (bytes : List ℕ) (pool : List ℤ) → Bytes bytes → (start bytes pool).answer ≡ accepted started
    → (l : Layout) × (passing New bytes ≡ accepted l) × ((cs : List Call) → Order bytes l.deck pool cs)
order bytes pool b h =
    let fresh = start-fresh New bytes pool h in
    let l = fresh.0 in
    let passes = fresh.1.passes in (
      l,
      passes,
      ordered bytes pool l fresh.1 (passed-formed New bytes b l passes) (passed-acyclic New bytes b l passes)
          (passed-scoped New bytes b l passes) (passed-opens New bytes b l passes),
    )
