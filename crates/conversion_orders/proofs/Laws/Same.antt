-- A converted deck has the charges, the firings and the lists of calls of the old one. Assumes nothing.
use Prim.Native.Nat.{ℕ, zero, suc, ◌+◌, ◌-◌, ◌*◌, ◌%◌}
use Rattle.std.specs.Prelude.{◌≡◌, Bool, ◌&&◌, length, pos, ltb}
use Rattle.std.proofs.Math.Path.{refl, ap, ap₂, fun_ext}
use Rattle.std.proofs.Common.{sym, ◌∙◌}
use Rattle.std.proofs.Math.Bool.{not, cond}
use mathlib.Core.List.{List, [], ◌∷◌, ◌++◌, map, append-nil, flat_map}
use native.Mathlib.Omega.{arith}
use Rattle.std.proofs.Math.ListN.{get_or-map}
use Rattle.std.proofs.Math.IntN.{ℤ, nat_abs}
use Rattle.std.proofs.Math.Dec.{leb, eqb}
use Rattle.std.specs.Int.Signed.{le_z, lt_z}
use Rattle.lists.specs.Lists.{lists, all_of, distinct, select, is_empty, eq_z, sum_of, below}
use Rattle.lists.specs.Laws.Sums.{sum_of-flat_map, sum_of-map}
use Rattle.refusals.specs.Outcome.{Outcome, accepted, ◌>>◌, require}
use Rattle.refusals.specs.Numbers.{unknown_part, bad_input, input_outside, over_capacity, place_not_pending, budget_too_large}
use Rattle.expression.specs.Values.{truth_value}
use Rattle.deck.specs.Deck.{Action, Rule, Part, Deck, R, N, rule_at, part_at, targets, active, decks}
use Rattle.charge.specs.Charge.{others, receivers, unless_empty, update_by, rule_by, depth, update_charge}
use Rattle.pool.specs.Updates.{Pair, Update, channels, value_at, assign, charge}
use Rattle.pool.specs.Places.{zeros, capacity, pairs_of}
use Rattle.pool.specs.States.{Machine}
use Rattle.passing.specs.Check.{within, opening_values}
use Rattle.firing.specs.Firing.{sent, holds, fired_here, fired_there, fired, enqueue, changed, set_and_fire, pick, without, committed}
use Rattle.calls.specs.Calls.{channels_of, good_input, added, applied, discarded, settled, spent}
use Rattle.orders.specs.Calling.{Call, input, commit, settle}
use Rattle.orders.specs.Listed.{Turn, turn, turns, ending, Taken, taken, machine_after, in_front, list_from, listed}
use Rattle.conversion.specs.Converted.{default_rule, task_rule, split_by, split, renumbered, converted}
use Rattle.conversion.proofs.Laws.Formed.{same-R, same-N}
use Rattle.conversion.proofs.Laws.Renumbering.{flat_map-flat_map, flat_map-map, active-rules}

-- ---- one rule

-- the charge of an action at a part, k steps deep
abbrev action_of : ℕ → Deck → Action → ℕ → ℕ
action_of k d a q = unless_empty (targets a) (update_by k d q (targets a))

-- that of a rule's task at the parts that it is sent to, and that of a rule by what it is
abbrev task_of : ℕ → Deck → ℕ → Rule → ℕ
task_of k d p r = sum_of (action_of k d r.action) (cond r.everywhere (others d p) (p ∷ []))

abbrev pub rule_of : ℕ → Deck → ℕ → Rule → ℕ
rule_of k d p r = action_of k d r.default p + task_of k d p r

module _ (values : List ℤ) (p : ℕ) where
  here-split : (r : Rule) → flat_map (fired_here values p) (split r) ≡ fired_here values p r
  unfolding split split_by fired_here flat_map sent holds truth_value
  here-split r = go r.default refl
    where
      go : (a : Action) → r.default ≡ a → flat_map (fired_here values p) (split_by a r) ≡ fired_here values p r
      go [] e = append-nil (fired_here values p r)
      go (s ∷ a) e = ap (λ l. sent values p p r.default ++ l) (append-nil _)

  abbrev in_others : Deck → Rule → List Update
  in_others d r = flat_map (fired_there values p r) (others d p)

  there-split : (d : Deck) (r : Rule) → flat_map (in_others d) (split r) ≡ in_others d r
  unfolding split split_by fired_there flat_map holds
  there-split d r = go r.default
    where
      none : (l : List ℕ) → flat_map (fired_there values p (default_rule r)) l ≡ []
      none [] = refl
      none (q ∷ l) = none l

      go : (a : Action) → flat_map (in_others d) (split_by a r) ≡ in_others d r
      go [] = append-nil _
      go (s ∷ a) = ap (λ l. l ++ (in_others d (task_rule r) ++ [])) (none (others d p)) ∙ append-nil _

-- ---- decks

module _ (d : Deck) where
  abbrev d' : Deck
  d' = converted d

  same-others : (p : ℕ) → others d' p ≡ others d p
  unfolding others
  same-others p = ap (λ n. select (λ q. not (eqb q p)) (below n)) (same-N d)

  same-limit : (p : ℕ) → (part_at d' p).limit ≡ (part_at d p).limit
  unfolding decks converted renumbered lists
  same-limit p = ap (λ x. x.limit) (get_or-map (renumbered d) d.parts p _)

  -- ---- charges

  pub rule-by : (k : ℕ) (e : Deck) (p r : ℕ) → rule_by (suc k) e p r ≡ rule_of k e p (rule_at e r)
  unfolding update_by receivers
  rule-by k e p r = refl

  sum-of : (k : ℕ) (e : Deck) (p : ℕ) (rs : List ℕ) → sum_of (λ r. rule_by (suc k) e p r) rs ≡ sum_of (rule_of k e p) (map (rule_at e) rs)
  sum-of k e p rs = ap (λ f. sum_of f rs) (fun_ext (rule-by k e p)) ∙ sym (sum_of-map (rule_of k e p) (rule_at e) rs)

  none-by : (e : Deck) (p : ℕ) (rs : List ℕ) → sum_of (λ r. rule_by 0 e p r) rs ≡ 0
  unfolding update_by sum_of
  none-by e p [] = refl
  none-by e p (r ∷ rs) = let h = none-by e p rs in omega arith

  module _ (k : ℕ) (same : (p : ℕ) (u : List ℕ) → update_by k d' p u ≡ update_by k d p u) where
    -- the charge of the new rules together is that of the old one
    pub rule-split : (p : ℕ) (r : Rule) → sum_of (rule_of k d' p) (split r) ≡ rule_of k d p r
    unfolding split split_by sum_of targets unless_empty
    rule-split p r = go r.default refl
      where
        at_same : (a : Action) → action_of k d' a ≡ action_of k d a
        at_same a = fun_ext (λ q. ap (unless_empty (targets a)) (same q (targets a)))

        task-same : task_of k d' p r ≡ task_of k d p r
        task-same = ap₂ (λ f l. sum_of f (cond r.everywhere l (p ∷ []))) (at_same r.action) (same-others p)

        go : (a : Action) → r.default ≡ a → sum_of (rule_of k d' p) (split_by a r) ≡ rule_of k d p r
        go [] e = omega (arith, task-same, ap (λ f. f p) (at_same r.default))
        go (s ∷ a) e = omega (arith, task-same, ap (λ f. f p) (at_same r.default))

  zero_same : (p : ℕ) (u : List ℕ) → update_by 0 d' p u ≡ update_by 0 d p u
  unfolding update_by
  zero_same p u = refl

  update-by : (k : ℕ) (e : Deck) (p : ℕ) (u : List ℕ) → update_by (suc k) e p u ≡ 1 + sum_of (λ r. rule_by k e p r) (active e p u)
  unfolding update_by
  update-by k e p u = refl

  one_same : (p : ℕ) (u : List ℕ) → update_by 1 d' p u ≡ update_by 1 d p u
  one_same p u =
      update-by 0 d' p u
      ∙ ap (λ n. 1 + n) (none-by d' p (active d' p u) ∙ sym (none-by d p (active d p u)))
      ∙ sym (update-by 0 d p u)

  -- an update's charge from the charges of updates two steps deeper
  two-same : (k : ℕ) → ((p : ℕ) (u : List ℕ) → update_by k d' p u ≡ update_by k d p u)
      → (p : ℕ) (u : List ℕ) → update_by (suc (suc k)) d' p u ≡ update_by (suc (suc k)) d p u
  two-same k same p u =
      update-by (suc k) d' p u
      ∙ ap (λ n. 1 + n)
      (sum-of k d' p (active d' p u)
      ∙ ap (sum_of (rule_of k d' p)) (active-rules d p u)
      ∙ sum_of-flat_map (rule_of k d' p) split (map (rule_at d) (active d p u))
      ∙ ap (λ f. sum_of f (map (rule_at d) (active d p u))) (fun_ext (rule-split k same p))
      ∙ sym (sum-of k d p (active d p u)))
      ∙ sym (update-by (suc k) d p u)

  pub same_by : (k p : ℕ) (u : List ℕ) → update_by k d' p u ≡ update_by k d p u
  same_by zero p u = zero_same p u
  same_by (suc zero) p u = one_same p u
  same_by (suc (suc k)) p u = two-same k (same_by k) p u

  pub same-update-charge : (p : ℕ) (u : List ℕ) → update_charge d' p u ≡ update_charge d p u
  unfolding update_charge depth
  same-update-charge p u = ap (λ n. update_by (2 * n + 3) d' p u) (same-R d) ∙ same_by (2 * R d + 3) p u

  pub same-charge : (us : List Update) → charge d' us ≡ charge d us
  unfolding charge
  same-charge us = ap (λ f. sum_of f us) (fun_ext (λ u. same-update-charge u.part (channels u)))

  -- ---- firing

  pub same-fired : (values : List ℤ) (p : ℕ) (cs : List ℕ) → fired d' values p cs ≡ fired d values p cs
  unfolding fired
  same-fired values p cs =
      let rules = map (rule_at d) (active d p cs) in
      ap (λ rs. flat_map (fired_here values p) rs ++ flat_map (in_others values p d') rs) (active-rules d p cs)
      ∙ ap₂ ◌++◌
      (flat_map-flat_map (fired_here values p) split rules ∙ ap (λ f. flat_map f rules) (fun_ext (here-split values p)))
      (ap (λ l. flat_map (λ x. flat_map (fired_there values p x) l) (flat_map split rules)) (same-others p)
      ∙ flat_map-flat_map (in_others values p d) split rules
      ∙ ap (λ f. flat_map f rules) (fun_ext (there-split values p d)))

  same-changed : (p : ℕ) (before after : List ℤ) → changed d' p before after ≡ changed d p before after
  unfolding changed
  same-changed p before after = ap (λ n. select (λ c. not (eq_z (value_at before p c) (value_at after p c))) (below n)) (same-R d)

  pub same_set : (p : ℕ) (l : List Pair) (x : Machine) → set_and_fire d' p l x ≡ set_and_fire d p l x
  unfolding set_and_fire
  same_set p l x =
      let values = assign p l x.values in
      ap (λ us. record { values = values; pending = enqueue x.pending us })
      (ap (fired d' values p) (same-changed p x.values values) ∙ same-fired values p (changed d p x.values values))

  pub same-within : (p : ℕ) (values : List ℤ) → within d' p values ≡ within d p values
  unfolding within
  same-within p values = ap (truth_value (value_at values p) (value_at values p)) (same-limit p)

  -- ---- commits

  pub same-committed : (k : ℕ) (x : Machine) → committed d' k x ≡ committed d k x
  unfolding committed
  same-committed k x =
      let u = pick k x.pending in
      let taken : Machine = record { values = x.values; pending = without k x.pending } in
      ap₂ (λ b y. record { applied = b; machine = cond b y taken })
      (same-within u.part (assign u.part u.pairs x.values)) (same_set u.part u.pairs taken)

  same_turn : (k : ℕ) (x : Machine) → turn d' k x ≡ turn d k x
  unfolding turn
  same_turn k x = ap (λ c. record { part = (pick k x.pending).part; applied = c.applied; after = c.machine }) (same-committed k x)

  same-turns : (b : ℕ) (x : Machine) → turns d' b x ≡ turns d b x
  unfolding turns
  same-turns zero x = refl
  same-turns (suc b) x =
      ap (λ t. cond (is_empty x.pending) [] (t ∷ turns d' b t.after)) (same_turn 0 x)
      ∙ ap (λ l. cond (is_empty x.pending) [] (turn d 0 x ∷ l)) (same-turns b (turn d 0 x).after)

  -- ---- lists of calls

  pub same-input : (l : List ℤ) → good_input d' l ≡ good_input d l
  unfolding good_input
  same-input l = ap (λ n. leb 2 (length l) && leb (length l) 64 && eqb (length l % 2) 0
      && all_of (λ c. le_z (pos 0) c && lt_z c (pos n)) (channels_of l) && distinct (map nat_abs (channels_of l))) (same-R d)

  pub same_taken : (C : ℕ) (x : Machine) (c : Call) → taken d' C x c ≡ taken d C x c
  unfolding taken
  same_taken C x (input p l) =
      ap₂ (λ n b. entering n b (within d' p set) (set_and_fire d' p (pairs_of l) x) (charge d')) (same-N d) (same-input l)
      ∙ ap₂ (λ w z. entering (N d) (good_input d l) w z (charge d')) (same-within p set) (same_set p (pairs_of l) x)
      ∙ ap (entering (N d) (good_input d l) (within d p set) (set_and_fire d p (pairs_of l) x)) (fun_ext same-charge)
    where
      set : List ℤ
      set = assign p (pairs_of l) x.values

      entering : ℕ → Bool → Bool → Machine → (List Update → ℕ) → Outcome Taken
      entering n b w z charged =
          require (ltb p n) unknown_part 0
          >> (require b bad_input 0
          >> (require w input_outside 0
          >> (require (leb (charged z.pending) C) over_capacity 0
          >> accepted (record { answer = added (charged z.pending - charged x.pending); turns = []; machine = z }))))
  same_taken C x (commit k) =
      ap (λ t. done t (charge d' t.after.pending)) (same_turn k x) ∙ ap (done (turn d k x)) (same-charge (turn d k x).after.pending)
    where
      done : Turn → ℕ → Outcome Taken
      done t now =
          require (ltb k (length x.pending)) place_not_pending 0
          >> accepted (record { answer = cond t.applied (applied now) (discarded now); turns = t ∷ []; machine = t.after })
  same_taken C x (settle b) = ap done (same-turns b x)
    where
      done : List Turn → Outcome Taken
      done ts =
          require (leb b 65535) budget_too_large 0
          >> accepted (record {
            answer = cond (is_empty (ending x ts).pending) (settled (length ts)) (spent (length ts));
            turns = ts;
            machine = ending x ts;
          })

  same-list : (C : ℕ) (x : Machine) (cs : List Call) → list_from d' C x cs ≡ list_from d C x cs
  unfolding list_from
  same-list C x [] = refl
  same-list C x (c ∷ cs) =
      ap (λ t. in_front t (list_from d' C (machine_after x t) cs)) (same_taken C x c)
      ∙ ap (in_front (taken d C x c)) (same-list C (machine_after x (taken d C x c)) cs)

  parts_are : d'.parts ≡ map (renumbered d) d.parts
  unfolding converted
  parts_are = refl

  opening_of : Part → List ℤ
  opening_of p = p.opening

  openings : ◌≡◌ {A = Part → List ℤ} (λ p. (renumbered d p).opening) opening_of
  unfolding renumbered opening_of
  openings = refl

  pub same-opening : opening_values d' ≡ opening_values d
  unfolding opening_values opening_of
  same-opening =
      ap₂ (λ l n. l ++ zeros (512 - 32 * n)) rows (same-N d)
    where
      rows : flat_map (λ p. p.opening ++ zeros (32 - R d')) d'.parts ≡ flat_map (λ p. p.opening ++ zeros (32 - R d)) d.parts
      rows =
          ap (flat_map (λ p. p.opening ++ zeros (32 - R d'))) parts_are
          ∙ flat_map-map (λ p. p.opening ++ zeros (32 - R d')) (renumbered d) d.parts
          ∙ ap₂ (λ f n. flat_map (λ p. f p ++ zeros (32 - n)) d.parts) openings (same-R d)

  -- every list of calls from a fresh start: the same answers, the same commits, the same values and pending updates
  pub same-listed : (n : ℕ) (cs : List Call) → listed d' n cs ≡ listed d n cs
  unfolding listed
  same-listed n cs =
      ap (λ v. list_from d' (capacity n) (record { values = v; pending = [] }) cs) same-opening
      ∙ same-list (capacity n) (record { values = opening_values d; pending = [] }) cs
