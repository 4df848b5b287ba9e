-- Rows that have, up to the cap, the charges of an update or of an action at all parts. Assumes nothing.
use Prim.Native.Nat.{ℕ, zero, suc, ◌+◌, ◌*◌, ◌-◌, ◌<◌, ◌≤◌}
use mathlib.Core.Path.{◌≡◌, refl, sym, ap, ◌∙◌, subst}
use mathlib.Core.Logic.{inl, inr, ⊎_elim}
use mathlib.Core.Bool.{Bool, true, false, not, cond}
use mathlib.Core.List.{List}
use native.Mathlib.Omega.{arith}
use lib.Bits.{bit_and}
use lib.Dec.{eqb}
use lib.ListN.{length, get_or, replicate, length-replicate}
use borrow.Author.Tests.{eq-eqb, ne_eqb}
use Rattle.lists.specs.Lists.{sum_of, below}
use Rattle.lists.specs.Bits.{bit}
use Rattle.lists.specs.Laws.Steps.{sum_of-start, sum_of-next, sum_of-only}
use Rattle.deck.specs.Deck.{Deck, N}
use Rattle.deck.specs.Shape.{bits_of, shape}
use Rattle.deck.specs.declared.Deck as Counted
use Rattle.deck.proofs.Laws.Shape.{counted-N, shape-kind}
use Rattle.charge.specs.Charge.{unless_empty, update_charge, rule_charge}
use Rattle.charge.specs.Memo.{AcyclicTables, Memo, RowSmall, RowKnown, RowAdded, RowPut, Keeps, Begun, UpdatesGive, RulesGive, listening}
use Rattle.charge.specs.Memo.{capped}
use Rattle.charge_tables.specs.Laws.Entries.{few_parts, known_at}
use Rattle.charge_tables.proofs.Sets.{no-channel, some-channel}
use Rattle.charge_tables.proofs.Terms.{heard, own, given, unless-none, unless-some}
use Rattle.charge_tables.proofs.Tabled.{update_all, rule-all, listening-heard, not-listening-heard}
use Rattle.charge_tables.proofs.Rows.{replicate-most, sum-parted, sum-capped}
use Rattle.charge_tables.proofs.Memos.{Written, row-known, keeps_same, keeps-trans, put-memo, put_keeps, put-known}

-- the numbers of f at the first n parts
pub record RowOf (n : ℕ) (f : ℕ → ℕ) (k : ℕ) (row : List ℕ) : Type 0 where
  pub small : RowSmall k row
  pub each : (q : ℕ) → q < n → capped (get_or row q 0) ≡ capped (f q)

pub row_same : {n k : ℕ} {f g : ℕ → ℕ} {row : List ℕ} → RowOf n f k row → ((q : ℕ) → f q ≡ g q) → RowOf n g k row
row_same h e = record { small = h.small; each = λ q l. h.each q l ∙ ap capped (e q) }

-- a row of one number
replicated : (x n i : ℕ) → i < n → get_or (replicate n x) i 0 ≡ x
replicated x zero i l = absurd (omega arith)
replicated x (suc n) zero l = refl
replicated x (suc n) (suc i) l = replicated x n i (omega arith)

pub row-replicated : (x n k : ℕ) (f : ℕ → ℕ) → x ≤ 1 → n ≤ 16 → ((q : ℕ) → f q ≡ x) → RowOf n f k (replicate 16 x)
row-replicated x n k f s few e =
    record {
      small = record { long = length-replicate {A = ℕ} 16 x; each = λ q. omega (arith, replicate-most x 16 q) };
      each = λ q l. ap capped (replicated x 16 q (omega arith) ∙ sym (e q));
    }

-- the charges of the rules below k that hear an update, at each part, added to 1
abbrev pub hears_below : Deck → ℕ → ℕ → ℕ → ℕ
hears_below d mask k q = 1 + sum_of (heard d q (bits_of 32 mask)) (below k)

pub record Hearing (d : Deck) (n mask k : ℕ) (xs : List ℕ) : Type 0 where
  pub row : RowOf n (hears_below d mask k) k xs

-- the charges of an action, and a memo that has all that it had
pub record ActionGives (rules parts : List ℕ) (k : Counted.Deck) (mask : ℕ) (m₀ m sums : List ℕ) : Type 0 where
  pub memo : Memo (shape rules parts k) m
  pub keeps : Keeps m₀ m
  pub row : RowOf k.parts (λ q. unless_empty (bits_of 32 mask) (update_charge (shape rules parts k) q (bits_of 32 mask))) 64 sums

pub ones-long : {row : List ℕ} → row ≡ replicate 16 1 → length row ≡ 16
ones-long e = ap length e ∙ length-replicate {A = ℕ} 16 1

module _ {rules parts : List ℕ} {counts : Counted.Deck} (h : AcyclicTables rules parts counts) where
  -- the counts
  abbrev R' : ℕ
  R' = counts.channels

  abbrev M' : ℕ
  M' = counts.rules

  abbrev N' : ℕ
  N' = counts.parts

  abbrev d : Deck
  d = shape rules parts counts

  -- those of an action
  abbrev charges : ℕ → ℕ → ℕ
  charges mask q = unless_empty (bits_of 32 mask) (update_charge d q (bits_of 32 mask))

  pub hearing-none : (mask : ℕ) {row : List ℕ} → row ≡ replicate 16 1 → Hearing d N' mask 0 row
  hearing-none mask e =
      record {
        row = rw e
            (row-replicated 1 N' 0 (hears_below d mask 0) (omega arith) h.few_parts
            (λ q. omega (arith, sum_of-start (heard d q (bits_of 32 mask)))));
      }

  module _ {mask k : ℕ} {row : List ℕ} (w : Hearing d N' mask k row) (b : k < M') where
    pub hearing-skip : listening rules parts N' k mask ≡ false → Hearing d N' mask (k + 1) row
    hearing-skip f =
        record {
          row = record {
            small = record { long = w.row.small.long; each = λ q. omega (arith, w.row.small.each q) };
            each = λ q l.
                w.row.each q l
                ∙ ap capped
                (omega (arith, sum_of-next (heard d q (bits_of 32 mask)) k, not-listening-heard h k b mask f q l));
          };
        }

    pub hearing-more : {m row' : List ℕ} → listening rules parts N' k mask ≡ true → Memo d m → RowKnown N' k m
        → RowAdded parts m N' k row row' → Hearing d N' mask (k + 1) row'
    hearing-more {m} {row'} t memo known added =
        record { row = record { small = added.small; each = each } }
      where
        more : (b : Bool) (x y : ℕ) → x ≡ suc (capped y) → capped (cond b (x - 1) 0) ≡ capped (cond b y 0)
        more true x y e = omega arith
        more false x y e = refl

        each : (q : ℕ) → q < N' → capped (get_or row' q 0) ≡ capped (hears_below d mask (k + 1) q)
        each q l =
            let x = more (bit (get_or parts (4 * q) 0) k) _ _ (known_at h memo known q l) in
            omega (
              arith,
              x,
              added.each q l,
              w.row.each q l,
              listening-heard h k b mask t q l,
              sum_of-next (heard d q (bits_of 32 mask)) k,
            )

  -- what the action of rule r adds at part p
  share : (r : ℕ) {xs : List ℕ} → RowOf N' (given d r) 64 xs → (b : Bool) (p : ℕ) → p < N'
      → capped (cond b (sum_of (λ q. get_or xs q 0) (below N') - get_or xs p 0) (get_or xs p 0))
      ≡ capped (sum_of (λ q. cond (cond b (not (eqb q p)) (eqb q p)) (given d r q) 0) (below N'))
  share r {xs} two true p l =
      omega (
        arith,
        sum-parted (λ q. get_or xs q 0) N' p l,
        sum-capped (λ q. cond (not (eqb q p)) (get_or xs q 0) 0) (λ q. cond (not (eqb q p)) (given d r q) 0) N'
            (λ q v. other (not (eqb q p)) q v),
      )
    where
      other : (c : Bool) (q : ℕ) → q < N' → capped (cond c (get_or xs q 0) 0) ≡ capped (cond c (given d r q) 0)
      other true q v = two.each q v
      other false q v = refl
  share r {xs} two false p l =
      two.each p l
      ∙ ap capped
      (sym
      (sum_of-only (λ q. cond (eqb q p) (given d r q) 0) p (λ q v. ap (λ c. cond c (given d r q) 0) (ne_eqb q p v)) N' l
      ∙ ap (λ c. cond c (given d r p) 0) (eq-eqb p p refl)))

  pub row_written : {r : ℕ} {m n xs ys : List ℕ} → r < M' → RowOf N' (λ q. own d q r) 64 xs → RowOf N' (given d r) 64 ys
      → RowPut N' r (get_or rules (8 * r + 3) 0) xs ys m n → Written d r m n
  row_written {r} {m} {n} {xs} {ys} b one two put =
      let same = counted-N rules parts counts in
      record {
        long = put.long;
        each = λ p l. each p (omega (arith, same));
        others = λ i o. put.others i (⊎_elim (λ a. inl a) (λ (v : 16 * r + N d ≤ i). inr (omega (arith, same))) o);
      }
    where
      each : (p : ℕ) → p < N' → get_or n (16 * r + p) 0 ≡ suc (capped (rule_charge d p r))
      each p l =
          let s = share r two (eqb (get_or rules (8 * r + 3) 0) 1) p l in
          let e = ap (λ b. sum_of (λ q. cond (cond b (not (eqb q p)) (eqb q p)) (given d r q) 0) (below N'))
          (shape-kind rules parts R' M' N' r b) in
          put.each p l ∙ ap suc (omega (arith, one.each p l, s, e, rule-all h p l r))

  -- the contracts' records from these
  pub gives-heard : {mask k : ℕ} {m₀ m xs : List ℕ} → Memo d m → Keeps m₀ m → Hearing d N' mask k xs → k ≡ M'
      → UpdatesGive rules parts counts mask m₀ m xs
  gives-heard {mask} {k} memo keeps w e =
      record {
        memo = memo;
        keeps = keeps;
        small = record {
          long = w.row.small.long;
          each = λ q. omega (arith, w.row.small.each q, h.few_rules);
        };
        each = λ q l.
            w.row.each q l
            ∙ ap capped (ap (λ k. hears_below d mask k q) e ∙ update_all h q l (bits_of 32 mask));
      }

  -- an action without a channel leaves the row of zeros, another gives what its update gives
  pub action-none : {mask : ℕ} {m xs : List ℕ} → bit_and mask 4294967295 ≡ 0 → Begun mask xs → Memo d m
      → ActionGives rules parts counts mask m m xs
  action-none {mask} z b memo =
      record {
        memo = memo;
        keeps = keeps_same;
        row = rw (b.none z)
            (row-replicated 0 N' 64 (charges mask) (omega arith) h.few_parts
            (λ q. unless-none (bits_of 32 mask) _ (no-channel mask z)));
      }

  pub action-some : {mask : ℕ} {m₀ m xs : List ℕ} → (bit_and mask 4294967295 ≡ 0 → ⊥)
      → UpdatesGive rules parts counts mask m₀ m xs → ActionGives rules parts counts mask m₀ m xs
  action-some {mask} z g =
      record {
        memo = g.memo;
        keeps = g.keeps;
        row = record {
          small = g.small;
          each = λ q l. g.each q l ∙ ap capped (sym (unless-some (bits_of 32 mask) _ (some-channel mask z)));
        };
      }

  all_known : {r : ℕ} {m : List ℕ} → RowKnown (N d) r m → RowKnown N' r m
  all_known {r} {m} known = subst (λ n. RowKnown n r m) (counted-N rules parts counts) known

  pub gives-known : {r : ℕ} {m : List ℕ} → Memo d m → (get_or m (16 * r) 0 ≡ 0 → ⊥) → RulesGive rules parts counts r m m
  gives-known {r} memo w = record { memo = memo; keeps = keeps_same; known = all_known (row-known memo (few_parts h) r w) }

  pub gives-written : {r : ℕ} {m₀ m n : List ℕ} → Memo d m → Keeps m₀ m → Written d r m n
      → RulesGive rules parts counts r m₀ n
  gives-written memo keeps w =
      record {
        memo = put-memo memo (few_parts h) w;
        keeps = keeps-trans keeps (put_keeps memo (few_parts h) w);
        known = all_known (put-known memo (few_parts h) w);
      }
