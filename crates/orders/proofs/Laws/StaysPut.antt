-- Channels that accepted inputs neither name nor lead to keep their values, and no pending update targets one. Assumes nothing.
use Prim.Native.Nat.{ℕ, zero, suc, ◌<◌}
use Rattle.std.specs.Prelude.{◌≡◌, Bool, false, leb, ltb, eqb, length, ℤ}
use Rattle.std.proofs.Math.Path.{refl, ap, subst}
use Rattle.std.proofs.Common.{sym, ◌∙◌, arith, ltb-true, eqb-true}
use Rattle.std.proofs.Math.Bool.{true}
use mathlib.Core.List.{List, [], ◌∷◌, ◌++◌, map, flat_map}
use Rattle.std.proofs.lemmas.Bool.{eqb-false}
use Rattle.lists.specs.Lists.{lists, all_of, member, is_empty}
use Rattle.lists.specs.Laws.Booleans.{or_left, or_right, not-true→false, contradiction}
use Rattle.lists.specs.Laws.Alls.{all_of-none, all_of-cons, all_of-left, all_of-right, all_of-at, all_of-flat_map, flat_map-all}
use Rattle.lists.specs.Laws.Members.{all_of-member}
use Rattle.refusals.specs.Outcome.{Outcome, refused, accepted}
use Rattle.refusals.specs.Numbers.{unknown_part, bad_input, input_outside, over_capacity, place_not_pending, budget_too_large}
use Rattle.expression.specs.Bytes.{Bytes}
use Rattle.deck.specs.declared.Form.TheVariants.{New}
use Rattle.deck.specs.Deck.{Deck, Action, R, N, rule_at, targets, active}
use Rattle.deck.specs.Layout.{Layout}
use Rattle.deck.specs.Facts.{Formed}
use Rattle.graph.specs.Graph.{assigns}
use Rattle.graph.proofs.Laws.Edges.{edge-intro, carried-intro}
use Rattle.graph.specs.Acyclic.{Acyclic}
use Rattle.graph.proofs.Laws.Targets.{known-targets}
use Rattle.charge.proofs.Laws.Active.{active-member}
use Rattle.pool.specs.Updates.{Pair, Update, channels, value_at, assign}
use Rattle.pool.specs.Places.{capacity, pairs_of}
use Rattle.pool.specs.States.{Machine, Memory, load, store}
use Rattle.pool.proofs.Laws.Values.{channels_in, assign_other}
use Rattle.pool.proofs.Laws.Assigned.{assign-part}
use Rattle.pool.proofs.Laws.Good.{load_store, fine-loaded, store-load}
use Rattle.pool.specs.Fine.{Fine}
use Rattle.passing.specs.Check.{passing, opening_values}
use Rattle.firing.specs.Firing.{evaluated, sent, fired, changed, set_and_fire, pick, committed}
use Rattle.firing.proofs.Laws.Firing.{sent-channels, fired-active}
use Rattle.firing.proofs.Laws.Enqueue.{enqueue-all}
use Rattle.firing.proofs.Laws.Charges.{changed-assigned}
use Rattle.firing.proofs.Laws.Commits.{taken_out, without_all, pick_known, commit-either, commit-fine}
use Rattle.calls.specs.Calls as Calls
use Rattle.calls.specs.Calls.{Answer, started, good_input, opened, settling}
use Rattle.calls.proofs.Laws.Inputs.{input-known}
use Rattle.calls.proofs.Laws.Opening.{fine-opened}
use Rattle.calls.proofs.Laws.Settling.{repeated, settle-repeats}
use Rattle.orders.specs.Calling.{Call, input, commit, settle, run_from, run}
use Rattle.orders.specs.Listed.{turn, Taken, taken, machine_after, Listed, in_front, list_from, listed}
use Rattle.orders.specs.Order.{Along}
use Rattle.orders.specs.StaysPut.{named_by, named, LeftAlone, led, targeted, StaysPut}
use Rattle.orders.proofs.Laws.Agreement.{settling-ends}
use Rattle.orders.proofs.Laws.Taking.{answered, guard, some-pending, taking}
use Rattle.orders.proofs.Laws.Invariants.{CommitKeeps}
use Rattle.orders.proofs.Laws.Listing.{along-ends, run-agrees}
use Rattle.orders.proofs.Laws.Kept.{Tested, passed-formed, passed-acyclic}
use Rattle.orders.proofs.Laws.Order.{order}
use Rattle.orders.proofs.Laws.Hosts.{replied, Trace, order-seen}
use Rattle.orders.proofs.Laws.Led.{led-named, led-closed, left-alone-tested}

-- one call in front of a list
named-front : (c : Call) (cs : List Call) (o : Outcome Taken) (l : Listed)
    → named (c ∷ cs) (in_front o l).answers ≡ named_by c (answered o) ++ named cs l.answers
unfolding named in_front
named-front c cs (refused n p) l = refl
named-front c cs (accepted t) l = refl

module _ (d : Deck) (names : List ℕ) (kept : List ℤ) where
  -- a channel that was named or is led to, and an update that sets no other
  abbrev is_led : ℕ → Bool
  is_led = led d names

  abbrev sets_led : Update → Bool
  sets_led u = all_of is_led (channels u)

  -- every other channel has its value of the table `kept`, and no pending update sets one
  record Untouched (x : Machine) : Type 0 where
    pub value : (p c : ℕ) → p < N d → c < R d → is_led c ≡ false → value_at x.values p c ≡ value_at kept p c
    pub pending : all_of sets_led x.pending ≡ true

  -- in a good state with C places
  abbrev FineUntouched : ℕ → Machine → Type 0
  FineUntouched C x = Fine d C x × Untouched x

  -- ---- the firing

  sent-sets-led : (values : List ℤ) (p q : ℕ) (a : Action) → all_of is_led (targets a) ≡ true → all_of sets_led (sent values p q a) ≡ true
  unfolding sent channels
  sent-sets-led values p q [] h = all_of-none sets_led
  sent-sets-led values p q (s ∷ a) h =
      all_of-cons sets_led (record { part = q; pairs = map (evaluated values p q) (s ∷ a) }) []
      (ap (all_of is_led) (sent-channels values p q (s ∷ a)) ∙ h) (all_of-none sets_led)

  module _ (formed : Formed d) where
    module _ (values : List ℤ) (p : ℕ) (lp : p < N d) (cs : List ℕ) (from : (c : ℕ) → member c cs ≡ true → is_led c ≡ true) where
      -- whatever an active rule assigns, an edge leads there
      assigned-led : (r t : ℕ) → member r (active d p cs) ≡ true → assigns d r t ≡ true → is_led t ≡ true
      assigned-led r t m h =
          let a = (active-member d p cs r).0 m in
          led-closed d names (known-targets d formed) a.2.0 t (from a.2.0 a.2.1)
          (edge-intro d r a.2.0 t a.0 (carried-intro d p r lp a.1) a.2.2 h)

      fired-sets-led : all_of sets_led (fired d values p cs) ≡ true
      unfolding assigns
      fired-sets-led =
          fired-active d values p sets_led lp cs
          (λ r m.
          let rule = rule_at d r in
          sent-sets-led values p p rule.default
          ((all_of-member is_led (targets rule.default)).1 (λ t k. assigned-led r t m (or_left (member t (targets rule.action)) k))))
          (λ q r _ m.
          let rule = rule_at d r in
          sent-sets-led values p q rule.action
          ((all_of-member is_led (targets rule.action)).1 (λ t k. assigned-led r t m (or_right (member t (targets rule.default)) k))))

    -- ---- setting channels, and commits

    set-untouched : (p : ℕ) (l : List Pair) (x : Machine) → p < N d → all_of (λ c. ltb c (R d)) (channels_in l) ≡ true
        → all_of is_led (channels_in l) ≡ true → Untouched x → Untouched (set_and_fire d p l x)
    unfolding set_and_fire
    set-untouched p l x lp known leads h =
        let values = assign p l x.values in
        let cs = changed d p x.values values in
        record {
          value = λ q c lq lc other. same q c (eqb q p) refl lc other ∙ h.value q c lq lc other;
          pending = enqueue-all sets_led x.pending (fired d values p cs) h.pending
              (fired-sets-led values p lp cs (λ c m. each-led c (changed-assigned d x.values p l c m)));
        }
      where
        each-led : (c : ℕ) → member c (channels_in l) ≡ true → is_led c ≡ true
        each-led = (all_of-member is_led (channels_in l)).0 leads

        same : (q c : ℕ) (b : Bool) → eqb q p ≡ b → c < R d → is_led c ≡ false
            → value_at (assign p l x.values) q c ≡ value_at x.values q c
        same q c false e lc other = assign-part (R d) p q c l x.values formed.channels (eqb-false q p e) lc known
        same q c true e lc other =
            subst (λ j. value_at (assign p l x.values) j c ≡ value_at x.values j c) (sym (eqb-true q p e))
            (assign_other p c l x.values (not-true→false (member c (channels_in l)) (λ m. contradiction (each-led c m) other)))

    commit-untouched : (C : ℕ) → CommitKeeps d Untouched C
    unfolding pick channels
    commit-untouched C x f h k low =
        let u = pick k x.pending in
        let has = pick_known d C x k f low in
        let leads = all_of-at sets_led x.pending k (record { part = 0; pairs = [] }) h.pending low in
        let out : Untouched (taken_out k x) = record { value = h.value; pending = without_all sets_led k x.pending h.pending } in
        commit-either d k x (λ _ y. Untouched y)
        (λ _. set-untouched u.part u.pairs (taken_out k x) has.part has.inside leads out) (λ _. out)

    -- ---- calls

    module _ (acyclic : Acyclic d) (C : ℕ) where
      -- commits of place 0, each with something pending
      repeated-untouched : (n : ℕ) (x : Machine) → Fine d C x → Untouched x
          → ((j : ℕ) → j < n → is_empty (repeated j d x).pending ≡ false) → Untouched (repeated n d x)
      unfolding repeated
      repeated-untouched zero x f h some = h
      repeated-untouched (suc n) x f h some =
          let low = some-pending x.pending (some 0 (omega arith)) in
          repeated-untouched n (committed d 0 x).machine (commit-fine d formed acyclic C 0 x f low) (commit-untouched C x f h 0 low)
          (λ j l. some (suc j) (omega arith))

      -- a call whose names are all led to
      call-untouched : (x : Machine) → Fine d C x → Untouched x → (c : Call) → all_of is_led (named_by c (answered (taken d C x c))) ≡ true
          → Untouched (machine_after x (taken d C x c))
      unfolding taken machine_after named_by turn
      call-untouched x f h (input p l) =
          let goal : Outcome Taken → Type 0 = λ o. all_of is_led (named_by (input p l) (answered o)) ≡ true → Untouched (machine_after x o) in
          guard goal (ltb p (N d)) unknown_part _ (λ _. h)
          (λ lp.
          guard goal (good_input d l) bad_input _ (λ _. h)
          (λ good.
          guard goal _ input_outside _ (λ _. h)
          (λ _.
          guard goal _ over_capacity _ (λ _. h)
          (λ _ leads. set-untouched p (pairs_of l) x (ltb-true p (N d) lp) (input-known d l good) leads h))))
      call-untouched x f h (commit k) = λ _.
          guard (λ o. Untouched (machine_after x o)) (ltb k (length x.pending)) place_not_pending _ h
          (λ low. commit-untouched C x f h k (ltb-true k (length x.pending) low))
      call-untouched x f h (settle b) = λ _.
          let repeats = settle-repeats d b x in
          guard (λ o. Untouched (machine_after x o)) (leb b 65535) budget_too_large _ h
          (λ _.
          subst Untouched (sym repeats.machine ∙ settling-ends d b x)
          (repeated-untouched (settling d b x).made x f h repeats.earlier))

      along-untouched : (x : Machine) → FineUntouched C x → (cs : List Call) → all_of is_led (named cs (list_from d C x cs).answers) ≡ true
          → Along (λ y c. FineUntouched C (machine_after y (taken d C y c))) d C x cs
      unfolding Along list_from
      along-untouched x (f, h) [] leads = tt
      along-untouched x (f, h) (c ∷ cs) leads =
          let o = taken d C x c in
          let rest = list_from d C (machine_after x o) cs in
          let all-led = subst (λ ns. all_of is_led ns ≡ true) (named-front c cs o rest) leads in
          let first = all_of-left is_led (named_by c (answered o)) (named cs rest.answers) all-led in
          let later = all_of-right is_led (named_by c (answered o)) (named cs rest.answers) all-led in
          let after : FineUntouched C (machine_after x o) = ((taking d formed acyclic C x f c).fine, call-untouched x f h c first) in
          (after, along-untouched (machine_after x o) after cs later)

-- ---- lists

-- a list of calls from any good state, with its pending updates' channels among the names
module _ (d : Deck) (formed : Formed d) (acyclic : Acyclic d) (n : ℕ) (x : Machine) (fine : Fine d (capacity n) x) (cs : List Call) where
  abbrev C : ℕ
  C = capacity n

  abbrev names : List ℕ
  names = flat_map channels x.pending ++ named cs (list_from d C x cs).answers

  abbrev end : Machine
  end = (list_from d C x cs).machine

  list-untouched : FineUntouched d names x.values C end
  list-untouched =
      let waiting = flat_map channels x.pending in
      let later = named cs (list_from d C x cs).answers in
      let first : FineUntouched d names x.values C x = (
        fine,
        record {
          value = λ p c lp lc other. refl;
          pending = flat_map-all (led d names) channels x.pending (all_of-left (led d names) waiting later (led-named d names));
        },
      ) in
      along-ends d C (FineUntouched d names x.values C) x first cs
      (along-untouched d names x.values formed acyclic C x first cs (all_of-right (led d names) waiting later (led-named d names)))

  list-stays-put : (c : ℕ) → LeftAlone d names c → StaysPut d x.values (store n end) c
  unfolding store load targeted
  list-stays-put c alone =
      let other = ((left-alone-tested d names (known-targets d formed) c).0 alone).1 in
      let waiting = flat_map channels end.pending in
      let all-led = all_of-flat_map (led d names) channels end.pending list-untouched.1.pending in
      record {
        value = λ p lp. list-untouched.1.value p c lp alone.channel other;
        pending = ap (λ y. member c (flat_map channels y.pending)) (load_store d n end list-untouched.0)
            ∙ not-true→false (member c waiting) (λ m. contradiction ((all_of-member (led d names) waiting).0 all-led c m) other);
      }

  -- the same of answers and of memory that are those of the list
  seen-stays-put : (seen : List (Outcome Answer)) (m : Memory) → seen ≡ (list_from d C x cs).answers → m ≡ store n end
      → (c : ℕ) → LeftAlone d (flat_map channels x.pending ++ named cs seen) c → StaysPut d x.values m c
  seen-stays-put seen m answers memory c alone =
      subst (λ m. StaysPut d x.values m c) (sym memory)
      (list-stays-put c (subst (λ s. LeftAlone d (flat_map channels x.pending ++ named cs s) c) answers alone))

-- from a fresh start, with nothing pending
fresh-stays-put : (bytes : List ℕ) (pool : List ℤ) → Bytes bytes → (l : Layout) → passing New bytes ≡ accepted l
    → (cs : List Call) (seen : List (Outcome Answer)) (m : Memory)
    → seen ≡ (listed l.deck (length pool) cs).answers → m ≡ store (length pool) (listed l.deck (length pool) cs).machine
    → (c : ℕ) → LeftAlone l.deck (named cs seen) c → StaysPut l.deck (opening_values l.deck) m c
unfolding listed opened lists
fresh-stays-put bytes pool b l passes =
    let d = l.deck in
    let n = length pool in
    let formed = passed-formed New bytes b l passes in
    seen-stays-put d formed (passed-acyclic New bytes b l passes) n (opened d) (fine-opened d formed (capacity n))

-- Req 04, for every deck, pool length, former content of the pool and list of input, commit and settle calls, any numbers in them,
-- after an accepted start
pub stays_put : (bytes : List ℕ) (pool : List ℤ) → Bytes bytes → (Calls.start bytes pool).answer ≡ accepted started
    → (l : Layout) × (passing New bytes ≡ accepted l)
    × ((cs : List Call) (c : ℕ) → LeftAlone l.deck (named cs (run bytes pool cs).answers) c
    → StaysPut l.deck (opening_values l.deck) (run bytes pool cs).memory c)
stays_put bytes pool b h =
    let o = order bytes pool b h in (
      o.0,
      o.1,
      λ cs. fresh-stays-put bytes pool b o.0 o.1 cs (run bytes pool cs).answers (run bytes pool cs).memory
          (o.2 cs).answers (o.2 cs).memory,
    )

-- the same of what a host sees that hands to each call what the last one handed back
pub stays-put-seen : (bytes : List ℕ) (pool : List ℤ) → Bytes bytes
    → (m : Memory) → replied (accepted started) m ≡ Calls.start bytes pool
    → (cs : List Call) (seen : List (Outcome Answer)) (end : Memory) → Trace bytes m cs seen end
    → (l : Layout) × (passing New bytes ≡ accepted l)
    × ((c : ℕ) → LeftAlone l.deck (named cs seen) c → StaysPut l.deck (opening_values l.deck) end c)
stays-put-seen bytes pool b m s cs seen end t =
    let o = order-seen bytes pool b m s cs seen end t in
    (o.layout, o.passes, fresh-stays-put bytes pool b o.layout o.passes cs seen end o.answers o.memory)

-- from any good state, a channel keeps the value that it has, where the channels of the updates that are pending there count as named
pub stays-put-from : (bytes : List ℕ) (m : Memory) → Bytes bytes → (t : Tested bytes m) → (cs : List Call) (c : ℕ)
    → LeftAlone t.layout.deck (targeted m ++ named cs (run_from bytes m cs).answers) c
    → StaysPut t.layout.deck m.state.values (run_from bytes m cs).memory c
unfolding targeted load
stays-put-from bytes m b t cs =
    let l = t.layout in
    let d = l.deck in
    let n = length m.pool in
    let formed = passed-formed New bytes b l t.passes in
    let acyclic = passed-acyclic New bytes b l t.passes in
    let fine = fine-loaded d m t.good_before in
    let back = store-load d m t.good_before in
    let agrees = run-agrees New bytes l t.passes n t.long formed acyclic (load m) fine cs in
    seen-stays-put d formed acyclic n (load m) fine cs (run_from bytes m cs).answers (run_from bytes m cs).memory
    (ap (λ k. (run_from bytes k cs).answers) (sym back) ∙ agrees.0)
    (ap (λ k. (run_from bytes k cs).memory) (sym back) ∙ agrees.1)
