-- The loop that draws the edges of every carried rule. Assumes nothing.
use Prim.Native.Nat.{ℕ, ◌+◌, ◌*◌, ◌≤◌}
use mathlib.Core.Path.{◌≡◌, sym, ap, ap₂, ◌∙◌}
use mathlib.Core.Bool.{Bool, true, false, ◌&&◌, ◌||◌, or-false}
use mathlib.Core.List.{List}
use native.Mathlib.Omega.{arith}
use lib.Bits.{bit_or}
use lib.ListN.{get_or, replicate, length-replicate, get_or-replicate}
use Rattle.lists.specs.Lists.{lists, any_of, select, below, first_or}
use Rattle.lists.specs.Bits.{bit}
use Rattle.lists.specs.Laws.Agreement.{any_of-more}
use Rattle.lists.specs.Laws.Bits.{bit-or, bit-zero}
use Rattle.deck.specs.Shape.{shape_of}
use Rattle.deck.proofs.Laws.Shape.{shape-R}
use Rattle.graph.specs.Graph.{edge, reaches_itself, cyclic}
use Rattle.graph.specs.FirstCycle.{first_cycle}
use Rattle.graph.specs.Masks.{edge_at, Added, carried_at, drawn_by, Drawn}
use Rattle.graph.proofs.Laws.Agreement.{cyclic-agree}
use Rattle.graph.proofs.Laws.Shape.{shape-edge}

pub drawn-none : (rules parts : List ℕ) (n : ℕ) → Drawn rules parts n 0 (replicate 32 0)
unfolding edge_at lists
drawn-none rules parts n =
    record {
      long = length-replicate {A = ℕ} 32 0;
      each = λ a b l. ap (λ x. bit x b) (get_or-replicate {A = ℕ} 32 a 0 0 l) ∙ bit-zero b;
    }

module _ {rules parts xs : List ℕ} {n r : ℕ} (h : Drawn rules parts n r xs) where
  -- what rule r makes where it is carried
  makes : ℕ → ℕ → Bool
  makes a b =
      bit (get_or rules (8 * r) 0) a && (bit (get_or rules (8 * r + 1) 0) b || bit (get_or rules (8 * r + 2) 0) b)

  -- the edges of the rules below r
  drawn : ℕ → ℕ → Bool
  drawn a b = any_of (drawn_by rules parts n a b) (below r)

  one_more_lem : (a b : ℕ) → any_of (drawn_by rules parts n a b) (below (r + 1)) ≡ (drawn a b || carried_at parts n r && makes a b)
  unfolding drawn makes drawn_by
  one_more_lem a b = any_of-more (drawn_by rules parts n a b) r

  pub drawn-skip : carried_at parts n r ≡ false → Drawn rules parts n (r + 1) xs
  unfolding drawn
  drawn-skip e =
      record {
        long = h.long;
        each = λ a b l.
            h.each a b l
            ∙ sym (one_more_lem a b ∙ ap (λ x. drawn a b || x && makes a b) e ∙ or-false (drawn a b));
      }

  pub drawn-more : {ys : List ℕ} → carried_at parts n r ≡ true
      → Added (get_or rules (8 * r) 0) (bit_or (get_or rules (8 * r + 1) 0) (get_or rules (8 * r + 2) 0)) xs ys
      → Drawn rules parts n (r + 1) ys
  unfolding drawn makes
  drawn-more e added =
      record {
        long = added.long;
        each = λ a b l.
            let both = bit-or (get_or rules (8 * r + 1) 0) (get_or rules (8 * r + 2) 0) b in
            added.each a b l
            ∙ ap₂ (λ x y. x || y) (h.each a b l) (ap (λ x. bit (get_or rules (8 * r) 0) a && x) both)
            ∙ sym (one_more_lem a b ∙ ap (λ x. drawn a b || x && makes a b) e);
      }

-- what is found in the table is what the definition finds in the shape
pub drawn-cycle : {rules parts xs : List ℕ} {R' M' N' : ℕ} → R' ≤ 32 → M' ≤ 64 → Drawn rules parts N' M' xs
    → first_or R' (select (reaches_itself R' (edge_at xs)) (below R')) ≡ first_cycle (shape_of rules parts R' M' N')
unfolding first_cycle cyclic
drawn-cycle {rules} {parts} {xs} {R'} {M'} {N'} channels few h =
    let e = edge (shape_of rules parts R' M' N') in
    ap (first_or R')
    (cyclic-agree R' (edge_at xs) e
    (λ a b la lb. h.each a b (omega arith) ∙ sym (shape-edge rules parts R' M' N' a b few (omega arith) (omega arith))))
    ∙ sym (ap (λ n. first_or n (select (reaches_itself n e) (below n))) (shape-R rules parts R' M' N'))
