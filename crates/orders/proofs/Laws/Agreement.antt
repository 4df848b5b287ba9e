-- Each call on a stored state answers and leaves what the definition of a list has for it. Assumes nothing.
use Rattle.std.specs.Prelude.{ℕ, zero, suc, ◌-◌, ◌≡◌, Bool, List, [], ◌∷◌, leb, ltb, length, ℤ}
use Rattle.std.proofs.Math.Path.{refl, ap, ap₂}
use Rattle.std.proofs.Common.{◌∙◌}
use Rattle.std.proofs.Math.Bool.{true, false, cond}
use Rattle.lists.specs.Lists.{is_empty}
use Rattle.refusals.specs.Outcome.{Outcome, refused, accepted, ◌>>=◌, ◌>>◌, require, outcomes}
use Rattle.refusals.specs.Numbers.{bad_pool, bad_state, unknown_part, bad_input, input_outside, over_capacity, place_not_pending, budget_too_large}
use Rattle.deck.specs.declared.Form.{Form}
use Rattle.deck.specs.Deck.{Deck, N}
use Rattle.deck.specs.Layout.{Layout}
use Rattle.pool.specs.Updates.{assign, charge}
use Rattle.pool.specs.Places.{capacity, pairs_of}
use Rattle.pool.specs.States.{Machine, Memory, load, store, good_length, good}
use Rattle.pool.proofs.Laws.Good.{load_store, store_length, good-stored}
use Rattle.pool.specs.Fine.{Fine}
use Rattle.passing.specs.Check.{within, passing}
use Rattle.firing.specs.Firing.{set_and_fire, committed, may_take}
use Rattle.calls.specs.Calls as Calls
use Rattle.calls.specs.Calls.{Answer, added, applied, discarded, settled, spent, Reply, Done, reply, tested_as, good_input, settling, one_more}
use Rattle.orders.specs.Calling.{Call, input, commit, settle, made_as}
use Rattle.orders.specs.Listed.{Turn, turn, turns, ending, Taken, taken}

-- a settle's commits one by one, against its count
pub settling-made : (d : Deck) (budget : ℕ) (x : Machine) → (settling d budget x).made ≡ length (turns d budget x)
unfolding settling one_more turns turn
settling-made d zero x = refl
settling-made d (suc budget) x = go (is_empty x.pending) (settling-made d budget (committed d 0 x).machine)
  where
    after : Machine
    after = (committed d 0 x).machine

    go : (b : Bool) → (settling d budget after).made ≡ length (turns d budget after)
        → (cond b (record { made = 0; machine = x }) (one_more (settling d budget after))).made
        ≡ length (cond b [] (turn d 0 x ∷ turns d budget after))
    go true e = refl
    go false e = ap suc e

pub settling-ends : (d : Deck) (budget : ℕ) (x : Machine) → (settling d budget x).machine ≡ ending x (turns d budget x)
unfolding settling one_more turns turn ending
settling-ends d zero x = refl
settling-ends d (suc budget) x = go (is_empty x.pending) (settling-ends d budget (committed d 0 x).machine)
  where
    after : Machine
    after = (committed d 0 x).machine

    go : (b : Bool) → (settling d budget after).machine ≡ ending after (turns d budget after)
        → (cond b (record { made = 0; machine = x }) (one_more (settling d budget after))).machine
        ≡ ending x (cond b [] (turn d 0 x ∷ turns d budget after))
    go true e = refl
    go false e = e

-- what a call of a list hands back to a host, with a pool of n numbers
unfoldable pub handed : ℕ → Machine → Outcome Taken → Reply
handed n x (refused number place) = record { answer = refused number place; memory = store n x }
handed n x (accepted t) = record { answer = accepted t.answer; memory = store n t.machine }

-- the calls after their tests of deck, pool and state
input_body : Deck → ℕ → Machine → ℕ → List ℤ → Outcome Done
input_body d C x p l = do
  require (ltb p (N d)) unknown_part 0
  require (good_input d l) bad_input 0
  require (within d p (assign p (pairs_of l) x.values)) input_outside 0
  let after = set_and_fire d p (pairs_of l) x
  require (leb (charge d after.pending) C) over_capacity 0
  accepted (record { answer = added (charge d after.pending - charge d x.pending); machine = after })

commit_body : Deck → Machine → ℕ → Outcome Done
commit_body d x k = do
  require (may_take x.pending k) place_not_pending 0
  let c = committed d k x
  let now = charge d c.machine.pending
  accepted (record { answer = cond c.applied (applied now) (discarded now); machine = c.machine })

settle_body : Deck → Machine → ℕ → Outcome Done
settle_body d x b = do
  require (leb b 65535) budget_too_large 0
  let s = settling d b x
  accepted (record { answer = cond (is_empty s.machine.pending) (settled s.made) (spent s.made); machine = s.machine })

module _ (f : Form) (bytes : List ℕ) (l : Layout) (passes : passing f bytes ≡ accepted l) (n : ℕ) (long : good_length n ≡ true) (x : Machine)
    (fine : Fine l.deck (capacity n) x) where
  abbrev d : Deck
  d = l.deck

  abbrev m : Memory
  m = store n x

  same_length : length m.pool ≡ n
  same_length = store_length d n x fine

  tested-stored : tested_as f bytes m ≡ accepted d
  unfolding tested_as outcomes
  tested-stored =
      ap (λ o. o >>= λ k. require (good_length (length m.pool)) bad_pool 0 >>
      (require (good k.deck m) bad_state 0 >> accepted k.deck)) passes
      ∙ ap (λ b. require b bad_pool 0 >> (require (good d m) bad_state 0 >> accepted d)) (ap good_length same_length ∙ long)
      ∙ ap (λ b. require b bad_state 0 >> accepted d) (good-stored d n x fine)

  -- a call that goes on with the deck, the values and the pending updates
  goes_on : (body : Deck → ℕ → Machine → Outcome Done)
      → reply m (tested_as f bytes m >>= λ k. body k (capacity (length m.pool)) (load m)) ≡ reply m (body d (capacity n) x)
  unfolding outcomes
  goes_on body =
      ap (λ o. reply m (o >>= λ k. body k (capacity (length m.pool)) (load m))) tested-stored
      ∙ ap₂ (λ C y. reply m (body d C y)) (ap capacity same_length) (load_store d n x fine)

  -- a refusal leaves the memory, and an answer comes with what is stored
  accepted-handed : (a : Answer) (ts : List Turn) (y : Machine)
      → reply m (accepted (record { answer = a; machine = y })) ≡ handed n x (accepted (record { answer = a; turns = ts; machine = y }))
  unfolding reply handed
  accepted-handed a ts y = ap (λ k. record { answer = accepted a; memory = store k y }) same_length

  guarded : (b : Bool) (number : ℕ) (o : Outcome Done) (t : Outcome Taken) → reply m o ≡ handed n x t
      → reply m (require b number 0 >> o) ≡ handed n x (require b number 0 >> t)
  unfolding reply handed outcomes
  guarded true number o t e = e
  guarded false number o t e = refl

  input-agrees : (p : ℕ) (pairs : List ℤ) → Calls.input_as f bytes m p pairs ≡ handed n x (taken d (capacity n) x (input p pairs))
  unfolding Calls.input_as taken input_body
  input-agrees p pairs =
      goes_on (λ k C y. input_body k C y p pairs)
      ∙ guarded (ltb p (N d)) unknown_part _ _
      (guarded (good_input d pairs) bad_input _ _
      (guarded (within d p (assign p (pairs_of pairs) x.values)) input_outside _ _
      (guarded (leb (charge d (set_and_fire d p (pairs_of pairs) x).pending) (capacity n)) over_capacity _ _ (accepted-handed _ _ _))))

  commit-agrees : (k : ℕ) → Calls.commit_as f bytes m k ≡ handed n x (taken d (capacity n) x (commit k))
  unfolding Calls.commit_as taken commit_body turn
  commit-agrees k =
      goes_on (λ k' C y. commit_body k' y k)
      ∙ guarded (may_take x.pending k) place_not_pending _ _ (accepted-handed _ _ _)

  settle-agrees : (b : ℕ) → Calls.settle_as f bytes m b ≡ handed n x (taken d (capacity n) x (settle b))
  unfolding Calls.settle_as taken settle_body
  settle-agrees b =
      goes_on (λ k C y. settle_body k y b)
      ∙ guarded (leb b 65535) budget_too_large _ _
      (ap₂ (λ c y. reply m (accepted (record { answer = cond (is_empty y.pending) (settled c) (spent c); machine = y })))
      (settling-made d b x) (settling-ends d b x)
      ∙ accepted-handed _ (turns d b x) (ending x (turns d b x)))

  pub made-agrees : (c : Call) → made_as f bytes m c ≡ handed n x (taken d (capacity n) x c)
  unfolding made_as
  made-agrees (input p pairs) = input-agrees p pairs
  made-agrees (commit k) = commit-agrees k
  made-agrees (settle b) = settle-agrees b
