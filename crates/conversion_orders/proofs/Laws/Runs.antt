-- On memory: start, every call on whatever it is lent, and so every list of calls after a start, answer and leave with the converted
-- deck under the new check what they do with the old one under the old check. Assumes nothing.
use Prim.Native.Nat.{ℕ, zero, suc, ◌-◌, ◌/◌, ◌%◌, ◌*◌, ◌≤◌}
use Rattle.std.specs.Prelude.{◌≡◌, true, false, ◌&&◌, ◌||◌, leb, eqb, length, drop, ℤ}
use Rattle.std.proofs.Math.Path.{refl, sym, ap, ap₂, fun_ext}
use Rattle.std.proofs.Common.{◌∙◌}
use Rattle.std.proofs.Math.Bool.{Bool, not, cond}
use mathlib.Core.List.{List, [], ◌∷◌}
use Rattle.std.proofs.Math.Dec.{ltb}
use Rattle.lists.specs.Lists.{all_of, distinct, is_empty}
use Rattle.refusals.specs.Outcome.{Outcome, refused, accepted, ◌>>=◌, ◌>>◌, require, outcomes}
use Rattle.refusals.specs.Numbers.{bad_pool, bad_state, unknown_part, bad_input, input_outside, over_capacity, place_not_pending, budget_too_large}
use Rattle.expression.specs.Bytes.{Bytes}
use Rattle.deck.specs.declared.Form.{Form}
use Rattle.deck.specs.declared.Form.TheVariants.{Old, New}
use Rattle.deck.specs.Limits.{limits}
use Rattle.deck.specs.Deck.{Deck, R, M, N}
use Rattle.deck.specs.Layout.{Layout}
use Rattle.deck.specs.Encoding.{encode}
use Rattle.deck.proofs.Laws.Reading.{encoded_layout}
use Rattle.pool.specs.Updates.{Update, channels, assign, all_different, charge}
use Rattle.pool.specs.Places.{zeros, capacity, pairs_of, is_zero, well_written, places, updates_of}
use Rattle.pool.specs.States.{Machine, Memory, load, good_length, unused_zero, known, good}
use Rattle.passing.specs.Check.{within, passing}
use Rattle.firing.specs.Firing.{set_and_fire, Commit, committed, may_take, next_place}
use Rattle.calls.specs.Calls.{started, added, applied, discarded, settled, spent, Done, Reply, reply, opened, good_input}
use Rattle.calls.specs.Calls.{Settling, settling, one_more, tested_as, start_as, input_as, commit_as, settle_as}
use Rattle.orders.specs.Calling.{Call, input, commit, settle, made_as, Run, run_from_as, run_as}
use Rattle.conversion.specs.Converted.{converted}
use Rattle.conversion.proofs.Laws.Formed.{same-R, same-N}
use Rattle.conversion_orders.proofs.Laws.Same.{same-charge, same_set, same-within, same-committed, same-input, same-opening}
use Rattle.conversion_orders.proofs.Laws.Passes.{converted-passes}

-- ---- good states, and what is left of a call behind its tests

module _ (d : Deck) where
  abbrev d' : Deck
  d' = converted d

  same-unused : (i : ℕ) (vs : List ℤ) → unused_zero d' i vs ≡ unused_zero d i vs
  unfolding unused_zero
  same-unused i [] = refl
  same-unused i (v ∷ vs) =
      ap₂ (λ n r. (ltb (i / limits.channels) n && ltb (i % limits.channels) r || is_zero v) && unused_zero d' (suc i) vs)
      (same-N d) (same-R d)
      ∙ ap (λ b. (ltb (i / limits.channels) (N d) && ltb (i % limits.channels) (R d) || is_zero v) && b) (same-unused (suc i) vs)

  same_known : (u : Update) → known d' u ≡ known d u
  unfolding known
  same_known u =
      ap₂ (λ n r. ltb u.part n && not (is_empty u.pairs) && all_of (λ c. ltb c r) (channels u) && distinct (channels u))
      (same-N d) (same-R d)

  pub same_good : (m : Memory) → good d' m ≡ good d m
  unfolding good
  same_good m =
      ap (λ b. whole b (known d') (charge d' us)) (same-unused 0 m.state.values)
      ∙ ap₂ (whole (unused_zero d 0 m.state.values)) (fun_ext same_known) (same-charge d us)
    where
      us : List Update
      us = updates_of m.state.pending m.pool

      whole : Bool → (Update → Bool) → ℕ → Bool
      whole unused is_Known charged =
          eqb (length m.state.values) limits.values
          && unused
          && leb m.state.pending (capacity (length m.pool))
          && all_of well_written (places m.state.pending m.pool)
          && all_of is_zero (drop (limits.place * m.state.pending) m.pool)
          && all_of is_Known us
          && all_different us
          && leb charged (capacity (length m.pool))

  same-settling : (b : ℕ) (x : Machine) → settling d' b x ≡ settling d b x
  unfolding settling
  same-settling zero x = refl
  same-settling (suc b) x =
      ap (λ (c : Commit). next (settling d' b c.machine)) (same-committed d (next_place x.pending) x)
      ∙ ap next (same-settling b (committed d (next_place x.pending) x).machine)
    where
      next : Settling → Settling
      next later = cond (is_empty x.pending) (record { made = 0; machine = x }) (one_more later)

-- ---- an old deck that passes, and its conversion of at most 64 rules

-- what a refused start leaves: a state of zeros, and the pool as it was
abbrev lent : List ℤ → Memory
lent pool = record { state = record { values = zeros 512; pending = 0 }; pool = pool }

-- what a start on a deck that passes hands back, by what it opens
abbrev started_with : List ℤ → Machine → Reply
started_with pool x =
    reply (lent pool) (require (good_length (length pool)) bad_pool 0 >> accepted (record { answer = started; machine = x }))

-- the tests of pool and state of a deck that passes
abbrev tests : Deck → Bool → Bool → Outcome Deck
tests e long fine = require long bad_pool 0 >> (require fine bad_state 0 >> accepted e)

module _ (f : Form) (bytes : List ℕ) (l : Layout) (passes : passing f bytes ≡ accepted l) where
  start_is : (pool : List ℤ) → start_as f bytes pool ≡ started_with pool (opened l.deck)
  unfolding start_as outcomes
  start_is pool =
      ap (λ o. reply (lent pool) (o >>= λ l.
      require (good_length (length pool)) bad_pool 0 >> accepted (record { answer = started; machine = opened l.deck })))
      passes

  tested-is : (m : Memory) → tested_as f bytes m ≡ tests l.deck (good_length (length m.pool)) (good l.deck m)
  unfolding tested_as outcomes
  tested-is m = ap (λ o. o >>= λ k. tests k.deck (good_length (length m.pool)) (good k.deck m)) passes

module _ (bytes : List ℕ) (b : Bytes bytes) (l : Layout) (passes : passing Old bytes ≡ accepted l)
    (few : M (converted l.deck) ≤ 64) where
  abbrev old : Deck
  old = l.deck

  abbrev new : Deck
  new = converted old

  abbrev bytes' : List ℕ
  bytes' = encode new

  passes' : passing New bytes' ≡ accepted (encoded_layout new)
  passes' = converted-passes bytes b l passes few

  same-opened : opened new ≡ opened old
  unfolding opened
  same-opened = ap (λ v. record { values = v; pending = [] }) (same-opening old)

  -- start answers and leaves the same, whatever the pool
  pub same_start : (pool : List ℤ) → start_as New bytes' pool ≡ start_as Old bytes pool
  same_start pool =
      start_is New bytes' (encoded_layout new) passes' pool
      ∙ ap (started_with pool) same-opened
      ∙ sym (start_is Old bytes l passes pool)

  -- a call whose rest comes to the same with both decks
  same-reply : (m : Memory) (rest : Deck → Outcome Done) → rest new ≡ rest old
      → reply m (tested_as New bytes' m >>= rest) ≡ reply m (tested_as Old bytes m >>= rest)
  unfolding outcomes
  same-reply m rest e =
      ap (λ o. reply m (o >>= rest)) (tested-is New bytes' (encoded_layout new) passes' m ∙ ap (tests new long) (same_good old m))
      ∙ ap (reply m) (go long (good old m))
      ∙ sym (ap (λ o. reply m (o >>= rest)) (tested-is Old bytes l passes m))
    where
      long : Bool
      long = good_length (length m.pool)

      go : (t u : Bool) → (tests new t u >>= rest) ≡ (tests old t u >>= rest)
      go true true = e
      go true false = refl
      go false u = refl

  -- every call, on whatever memory
  pub same-made : (m : Memory) (c : Call) → made_as New bytes' m c ≡ made_as Old bytes m c
  unfolding made_as input_as commit_as settle_as
  same-made m (input p pairs) =
      same-reply m _
      (ap₂ (λ n t. entering n t (within new p set) (set_and_fire new p (pairs_of pairs) x) (charge new)) (same-N old) (same-input old pairs)
      ∙ ap₂ (λ w z. entering (N old) (good_input old pairs) w z (charge new)) (same-within old p set) (same_set old p (pairs_of pairs) x)
      ∙ ap (entering (N old) (good_input old pairs) (within old p set) (set_and_fire old p (pairs_of pairs) x)) (fun_ext (same-charge old)))
    where
      x : Machine
      x = load m

      set : List ℤ
      set = assign p (pairs_of pairs) x.values

      entering : ℕ → Bool → Bool → Machine → (List Update → ℕ) → Outcome Done
      entering n t w z charged =
          require (ltb p n) unknown_part 0
          >> (require t bad_input 0
          >> (require w input_outside 0
          >> (require (leb (charged z.pending) (capacity (length m.pool))) over_capacity 0
          >> accepted (record { answer = added (charged z.pending - charged x.pending); machine = z }))))
  same-made m (commit k) =
      same-reply m _ (ap₂ taking (same-committed old k (load m)) (fun_ext (same-charge old)))
    where
      taking : Commit → (List Update → ℕ) → Outcome Done
      taking c charged =
          let now = charged c.machine.pending in
          require (may_take (load m).pending k) place_not_pending 0
          >> accepted (record { answer = cond c.applied (applied now) (discarded now); machine = c.machine })
  same-made m (settle budget) = same-reply m _ (ap ending (same-settling old budget (load m)))
    where
      ending : Settling → Outcome Done
      ending s =
          require (leb budget 65535) budget_too_large 0
          >> accepted (record {
            answer = cond (is_empty s.machine.pending) (settled s.made) (spent s.made);
            machine = s.machine;
          })

  same_from : (m : Memory) (cs : List Call) → run_from_as New bytes' m cs ≡ run_from_as Old bytes m cs
  unfolding run_from_as
  same_from m [] = refl
  same_from m (c ∷ cs) =
      ap (λ r. in_front r (run_from_as New bytes' r.memory cs)) (same-made m c)
      ∙ ap (in_front (made_as Old bytes m c)) (same_from (made_as Old bytes m c).memory cs)
    where
      in_front : Reply → Run → Run
      in_front r later = record { answers = r.answer ∷ later.answers; memory = later.memory }

  -- answers, state and pool, for every list of calls after a start with whatever pool
  pub same-run : (pool : List ℤ) (cs : List Call) → run_as New bytes' pool cs ≡ run_as Old bytes pool cs
  unfolding run_as
  same-run pool cs =
      ap (λ (r : Reply). run_from_as New bytes' r.memory cs) (same_start pool) ∙ same_from (start_as Old bytes pool).memory cs
