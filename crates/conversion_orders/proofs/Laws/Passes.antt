-- A converted deck of at most 64 rules passes the new check where the old one passes the old check. Assumes nothing.
use Prim.Native.Nat.{ℕ, suc, ◌+◌, ◌*◌, ◌≤◌, ◌<◌}
use Rattle.std.specs.Prelude.{◌≡◌, refl, true, false, ◌&&◌, ◌||◌, eqb}
use Rattle.std.proofs.Math.Path.{sym, ap, fun_ext}
use Rattle.std.proofs.Common.{ap₂, ◌∙◌, subst, arith}
use Rattle.std.proofs.Math.Logic.{⊎_elim}
use Rattle.std.proofs.Math.Bool.{Bool, or-false}
use mathlib.Core.List.{List, [], ◌∷◌}
use Rattle.lists.specs.Lists.{lists, any_of, sum_of, below, member}
use Rattle.lists.specs.Laws.Members.{member-empty, member-head, member-tail, member-cases, any_of-found}
use Rattle.lists.specs.Laws.Anys.{any_of-flat_map, any_of-map}
use Rattle.lists.specs.Laws.Below.{below-member}
use Rattle.lists.specs.Laws.Sums.{sum_of-map}
use Rattle.refusals.specs.Outcome.{accepted}
use Rattle.expression.specs.Bytes.{Bytes}
use Rattle.deck.specs.declared.Form.TheVariants.{Old, New}
use Rattle.deck.specs.Deck.{Action, Rule, Deck, R, M, N, rule_at, carries, targets}
use Rattle.deck.specs.Layout.{Layout}
use Rattle.deck.specs.Encoding.{encode, well_formed, suits}
use Rattle.deck.proofs.Laws.Reading.{encoded_layout}
use Rattle.deck.proofs.Laws.EncodedBytes.{encoded-bytes}
use Rattle.graph.specs.Graph.{carried, assigns, edge, Reaches, one, more}
use Rattle.charge.specs.Charge.{depth, rule_by, rule_charge}
use Rattle.passing.specs.Check.{within, opening_values, passing}
use Rattle.passing.proofs.Laws.Passes.{passes-exactly}
use Rattle.conversion.specs.Converted.{split_by, split, new_numbers, converted}
use Rattle.conversion.proofs.Laws.Formed.{same-R, same-N, converted-formed, converted-suits, unchanged}
use Rattle.conversion.proofs.Laws.Renumbering.{rules-of, numbers-below, carries-new, events-new}
use Rattle.conversion_orders.proofs.Laws.Same.{same_by, rule_of, rule-by, rule-split, same-within, same-opening}

any-cong : (f g : ℕ → Bool) (l : List ℕ) → ((x : ℕ) → member x l ≡ true → f x ≡ g x) → any_of f l ≡ any_of g l
unfolding any_of
any-cong f g [] h = refl
any-cong f g (x ∷ l) h = ap₂ ◌||◌ (h x (member-head x l)) (any-cong f g l (λ y m. h y (member-tail y x l m)))

any-and : (b : Bool) (f : ℕ → Bool) (l : List ℕ) → any_of (λ x. b && f x) l ≡ (b && any_of f l)
unfolding any_of
any-and true f l = refl
any-and false f [] = refl
any-and false f (x ∷ l) = any-and false f l

-- ---- the graph

-- a rule has b among the targets of either action
abbrev sets : ℕ → Rule → Bool
sets b r = member b (targets r.default) || member b (targets r.action)

sets-split : (b : ℕ) (r : Rule) → any_of (sets b) (split r) ≡ sets b r
unfolding split split_by lists targets
sets-split b r = go r.default refl
  where
    go : (a : Action) → r.default ≡ a → any_of (sets b) (split_by a r) ≡ sets b r
    go [] e = or-false (sets b r)
    go (s ∷ a) e = ap (λ t. member b (targets r.default) || t) (or-false (member b (targets r.action)))

module _ (d : Deck) where
  abbrev d' : Deck
  d' = converted d

  carried-new : (r n : ℕ) → r < M d → member n (new_numbers d r) ≡ true → carried d' n ≡ carried d r
  unfolding carried
  carried-new r n h m =
      ap (λ k. any_of (λ p. carries d' p n) (below k)) (same-N d)
      ∙ ap (λ f. any_of f (below (N d))) (fun_ext (λ p. carries-new d p r n h m))

  assigns-new : (r b : ℕ) → r < M d → any_of (λ n. assigns d' n b) (new_numbers d r) ≡ assigns d r b
  unfolding assigns
  assigns-new r b h =
      sym (any_of-map (sets b) (rule_at d') (new_numbers d r))
      ∙ ap (any_of (sets b)) (rules-of d r h)
      ∙ sets-split b (rule_at d r)

  pub same-edge : (a b : ℕ) → edge d' a b ≡ edge d a b
  unfolding edge
  same-edge a b =
      ap (any_of (makes d')) (numbers-below d)
      ∙ any_of-flat_map (makes d') (new_numbers d) (below (M d))
      ∙ any-cong (λ r. any_of (makes d') (new_numbers d r)) (makes d) (below (M d)) (λ r m. of r ((below-member (M d) r).1 m))
    where
      makes : Deck → ℕ → Bool
      makes e r = carried e r && (member a (rule_at e r).events && assigns e r b)

      of : (r : ℕ) → r < M d → any_of (makes d') (new_numbers d r) ≡ makes d r
      of r h =
          any-cong (makes d') (λ n. carried d r && (member a (rule_at d r).events && assigns d' n b)) (new_numbers d r)
          (λ n m. ap₂ (λ k es. k && (member a es && assigns d' n b)) (carried-new r n h m) (events-new d r n h m))
          ∙ any-and (carried d r) (λ n. member a (rule_at d r).events && assigns d' n b) (new_numbers d r)
          ∙ ap (λ t. carried d r && t)
          (any-and (member a (rule_at d r).events) (λ n. assigns d' n b) (new_numbers d r)
          ∙ ap (λ t. member a (rule_at d r).events && t) (assigns-new r b h))

  pub same-reaches : {a b : ℕ} → Reaches (edge d') a b → Reaches (edge d) a b
  same-reaches {a} {b} (one h) = one (sym (same-edge a b) ∙ h)
  same-reaches (more {b = b} {c = c} p h) = more (same-reaches p) (sym (same-edge b c) ∙ h)

  -- ---- charges

  -- the charges of the new rules add up to that of the old one
  pub split-charge : (p r : ℕ) → r < M d → sum_of (rule_charge d' p) (new_numbers d r) ≡ rule_charge d p r
  unfolding rule_charge depth
  split-charge p r h =
      ap (λ n. sum_of (λ s. rule_by (2 * n + 3) d' p s) (new_numbers d r)) (same-R d)
      ∙ go (2 * R d + 2) (2 * R d + 3) (omega arith)
    where
      go : (k j : ℕ) → j ≡ suc k → sum_of (λ s. rule_by j d' p s) (new_numbers d r) ≡ rule_by j d p r
      go k j e =
          ap (λ j. sum_of (λ s. rule_by j d' p s) (new_numbers d r)) e
          ∙ ap (λ f. sum_of f (new_numbers d r)) (fun_ext (rule-by d k d' p))
          ∙ sym (sum_of-map (rule_of k d' p) (rule_at d') (new_numbers d r))
          ∙ ap (sum_of (rule_of k d' p)) (rules-of d r h)
          ∙ rule-split d k (same_by d k) p (rule_at d r)
          ∙ sym (rule-by d k d p r)
          ∙ ap (λ j. rule_by j d p r) (sym e)

  one-of-sum : (f : ℕ → ℕ) (l : List ℕ) (x : ℕ) → member x l ≡ true → f x ≤ sum_of f l
  unfolding lists
  one-of-sum f [] x m = member-empty x m
  one-of-sum f (y ∷ l) x m =
      ⊎_elim (λ e. omega (arith, ap f e)) (λ k. omega (arith, one-of-sum f l x k)) (member-cases x y l m)

  -- a new number is one of some old rule's
  comes-from : (n : ℕ) → n < M d' → (r : ℕ) × (r < M d) × (member n (new_numbers d r) ≡ true)
  unfolding member
  comes-from n h =
      let m = sym (any_of-flat_map (eqb n) (new_numbers d) (below (M d))) ∙ ap (any_of (eqb n)) (sym (numbers-below d))
      ∙ (below-member (M d') n).0 h in
      let found = any_of-found (λ r. any_of (eqb n) (new_numbers d r)) (below (M d)) m in
      (found.0, (below-member (M d) found.0).1 found.1, found.2)

  pub charge-less : (b : ℕ) → ((p r : ℕ) → p < N d → r < M d → carries d p r ≡ true → rule_charge d p r ≤ b)
      → (p n : ℕ) → p < N d' → n < M d' → carries d' p n ≡ true → rule_charge d' p n ≤ b
  charge-less b h p n lp ln c =
      let from_old = comes-from n ln in
      let r = from_old.0 in
      let lr = from_old.1 in
      let m = from_old.2 in
      let lq : p < N d = subst (λ k. p < k) (same-N d) lp in
      let old = h p r lq lr (sym (carries-new d p r n lr m) ∙ c) in
      omega (arith, old, split-charge p r lr, one-of-sum (rule_charge d' p) (new_numbers d r) n m)

-- ---- all of it

-- the deck of bytes that pass the old check, and its conversion, are well formed
module _ (bytes : List ℕ) (b : Bytes bytes) (l : Layout) (e : passing Old bytes ≡ accepted l) where
  abbrev d : Deck
  d = l.deck

  module _ (few : M (converted d) ≤ 64) where
    pub passed-converted : well_formed (converted d) ≡ true
    passed-converted = converted-formed d ((passes-exactly Old bytes b l).0 e).layout.0 few

    pub converted-bytes : Bytes (encode (converted d))
    converted-bytes = encoded-bytes (converted d) passed-converted

    -- if the old check passes a deck and at most 64 rules result, the new check passes its conversion
    pub converted-passes : passing New (encode (converted d)) ≡ accepted (encoded_layout (converted d))
    converted-passes =
        let p = (passes-exactly Old bytes b l).0 e in
        (passes-exactly New (encode (converted d)) converted-bytes (encoded_layout (converted d))).1
        (record {
          layout = (passed-converted, refl, converted-suits d);
          sections = (refl, refl);
          opens = λ q lq.
              same-within d q (opening_values (converted d))
              ∙ ap (within d q) (same-opening d)
              ∙ p.opens q (subst (λ k. q < k) (same-N d) lq);
          acyclic = λ c r. p.acyclic c (same-reaches d r);
          charged = charge-less d 65535 p.charged;
        })

  -- without default actions, to its own bytes
  pub same_bytes : suits New d ≡ true → encode (converted d) ≡ bytes
  same_bytes new =
      let p = (passes-exactly Old bytes b l).0 e in
      ap encode (unchanged d new p.layout.0) ∙ sym p.layout.1
