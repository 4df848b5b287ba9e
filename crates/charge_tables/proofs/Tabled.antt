-- The terms of the two charges in the numbers that the functions read from the tables. Assumes nothing.
use Prim.Native.Nat.{ℕ, ◌+◌, ◌*◌, ◌<◌}
use mathlib.Core.Path.{◌≡◌, sym, ap, ◌∙◌}
use mathlib.Core.Bool.{Bool, true, false, ◌&&◌, cond, and-true}
use mathlib.Core.List.{List}
use native.Mathlib.Omega.{arith}
use lib.ListN.{get_or}
use Rattle.lists.specs.Lists.{any_of, sum_of, below, member}
use Rattle.lists.specs.Bits.{bit}
use Rattle.lists.specs.Laws.Booleans.{contradiction, not-true→false, and_both, and_left, and_right}
use Rattle.lists.specs.Laws.Below.{any_of-below}
use Rattle.deck.specs.Deck.{Deck, N}
use Rattle.deck.specs.Shape.{bits_of, shape}
use Rattle.deck.specs.declared.Deck as Counted
use Rattle.deck.proofs.Laws.Shape.{counted-M, counted-N}
use Rattle.graph.specs.Masks.{carried_at}
use Rattle.charge.specs.Charge.{unless_empty, update_charge, rule_charge}
use Rattle.charge.specs.Memo.{AcyclicTables, hearing, listening}
use Rattle.charge.proofs.Laws.Equations.{defaults, actions}
use Rattle.charge_listeners.specs.Laws.Listening.{carried-by}
use Rattle.charge_tables.proofs.Terms.{heard, own, given, sent, when-no, when-yes, update-is, rule-is, defaults-are, actions-are}
use Rattle.charge_tables.proofs.Terms.{listens-is}
use Rattle.charge_tables.proofs.Heights.{rank, update_rank, rule_rank, falls}

module _ {rules parts : List ℕ} {counts : Counted.Deck} (h : AcyclicTables rules parts counts) where
  -- the counts
  abbrev R' : ℕ
  R' = counts.channels

  abbrev M' : ℕ
  M' = counts.rules

  abbrev N' : ℕ
  N' = counts.parts

  abbrev d : Deck
  d = shape rules parts counts

  inside : (p : ℕ) → p < N' → p < N d
  inside p l = omega (arith, counted-N rules parts counts)

  module _ (p : ℕ) (l : p < N') where
    pub update_all : (u : List ℕ) → 1 + sum_of (heard d p u) (below M') ≡ update_charge d p u
    update_all u =
        ap (λ n. 1 + sum_of (heard d p u) (below n)) (sym (counted-M rules parts counts))
        ∙ update-is h.known h.acyclic p (inside p l) u

    pub rule-all : (r : ℕ) → own d p r + sum_of (sent d p r) (below N') ≡ rule_charge d p r
    rule-all r =
        ap (λ n. own d p r + sum_of (sent d p r) (below n)) (sym (counted-N rules parts counts))
        ∙ rule-is h.known h.acyclic p (inside p l) r

  module _ (r : ℕ) (k : r < M') where
    -- the two actions, and their charges at part q
    abbrev first : ℕ
    first = get_or rules (8 * r + 1) 0

    abbrev second : ℕ
    second = get_or rules (8 * r + 2) 0

    first-is : bits_of 32 first ≡ defaults d r
    first-is = sym (defaults-are rules parts R' M' N' r k)

    second_is : bits_of 32 second ≡ actions d r
    second_is = sym (actions-are rules parts R' M' N' r k)

    pub own_is : (q : ℕ) → unless_empty (bits_of 32 first) (update_charge d q (bits_of 32 first)) ≡ own d q r
    own_is q = ap (λ u. unless_empty u (update_charge d q u)) first-is

    pub given_is : (q : ℕ) → unless_empty (bits_of 32 second) (update_charge d q (bits_of 32 second)) ≡ given d r q
    given_is q = ap (λ u. unless_empty u (update_charge d q u)) second_is

    -- the measures fall
    pub first-falls : update_rank d (bits_of 32 first) < rule_rank d r
    first-falls = omega (arith, ap (rank d) first-is)

    pub second-falls : update_rank d (bits_of 32 second) < rule_rank d r
    second-falls = omega (arith, ap (rank d) second_is)

    module _ (mask : ℕ) where
      abbrev u : List ℕ
      u = bits_of 32 mask

      module _ (p : ℕ) (l : p < N') where
        abbrev hears : Bool
        hears = hearing rules parts p r mask

        pub heard-is : heard d p u r ≡ cond hears (rule_charge d p r) 0
        heard-is = ap (λ b. cond b (rule_charge d p r) 0) (listens-is rules parts R' M' N' r k p u l h.few_rules)

        pub heard-yes : hears ≡ true → heard d p u r ≡ rule_charge d p r
        heard-yes t = heard-is ∙ when-yes hears _ t

        pub heard-no : hears ≡ false → heard d p u r ≡ 0
        heard-no t = heard-is ∙ when-no hears _ t

        rule-falls : hears ≡ true → rule_rank d r < update_rank d u
        rule-falls t =
            falls h.known h.acyclic p r u (inside p l) (omega (arith, counted-M rules parts counts))
            (listens-is rules parts R' M' N' r k p u l h.few_rules ∙ t)

        -- a rule that part p hears is carried
        pub hears-carried : hears ≡ true → carried_at parts N' r ≡ true
        hears-carried t = carried-by parts N' r p l (and_left (bit (get_or parts (4 * p) 0) r) _ t)

      -- the test for all parts
      abbrev common : Bool
      common = any_of (λ c. member c (bits_of 32 (get_or rules (8 * r) 0))) u

      pub listening-carried : listening rules parts N' r mask ≡ true → carried_at parts N' r ≡ true
      listening-carried t = and_right common (carried_at parts N' r) t

      pub listening-falls : listening rules parts N' r mask ≡ true → rule_rank d r < update_rank d u
      unfolding carried_at
      listening-falls t =
          let found = (any_of-below (λ q. bit (get_or parts (4 * q) 0) r) N').0 (and_right common _ t) in
          rule-falls found.0 found.1 (and_both found.2 (and_left common _ t))

      pub listening-heard : listening rules parts N' r mask ≡ true → (q : ℕ) → q < N'
          → heard d q u r ≡ cond (bit (get_or parts (4 * q) 0) r) (rule_charge d q r) 0
      listening-heard t q l =
          heard-is q l
          ∙ ap (λ b. cond b (rule_charge d q r) 0)
          (ap (λ b. bit (get_or parts (4 * q) 0) r && b) (and_left common _ t) ∙ and-true (bit (get_or parts (4 * q) 0) r))

      pub not-listening-heard : listening rules parts N' r mask ≡ false → (q : ℕ) → q < N' → heard d q u r ≡ 0
      not-listening-heard f q l =
          heard-no q l
          (not-true→false (hears q l) λ t.
          contradiction (and_both (and_right (bit (get_or parts (4 * q) 0) r) _ t) (hears-carried q l t)) f)
