-- The place of the update that an action makes, as a loop writes it, pair by pair. Assumes nothing.
use Prim.Native.Nat.{ℕ, suc, ◌+◌, ◌*◌, ◌-◌, ◌≤◌, ◌<◌}
use Rattle.std.specs.Prelude.{◌≡◌, get_or}
use Rattle.std.proofs.Math.Path.{refl, sym, ap, ap₂}
use Rattle.std.proofs.Common.{◌∙◌, le-leb}
use mathlib.Core.List.{List, [], ◌∷◌, ◌++◌, append_assoc, append-nil, flat_map}
use native.Mathlib.Omega.{arith}
use Rattle.std.proofs.Math.ListN.{length, set, replicate, length-append}
use Rattle.std.proofs.Math.Seq.{set_at, append_snoc}
use Rattle.std.proofs.Math.IntN.{ℤ, pos}
use Rattle.lists.specs.Lists.{lists}
use Rattle.expression.specs.Reading.{whole_num}
use Rattle.expression.specs.Answers.{scope, num_in}
use Rattle.deck.specs.Deck.{Assignment, Action}
use Rattle.deck.specs.Layout.{action}
use Rattle.deck.specs.Facts.{ReadsAt}
use Rattle.pool.specs.Updates.{Pair}
use Rattle.pool.specs.Places.{zeros, place, pools}
use Rattle.pool.proofs.Laws.Places.{place-length}
use Rattle.pool.specs.Fine.{short}
use Rattle.passing.specs.Stands.{Stands}
use Rattle.firing.specs.Evaluated.{update_by}
use Rattle.firing.proofs.Laws.Lined.{Lined, action-stands}

pub pairs-length : (own far : List ℤ) (q : ℕ) (a : Action) → length (update_by own far q a).pairs ≡ length a
unfolding update_by
pairs-length own far q [] = refl
pairs-length own far q (x ∷ a) = ap suc (pairs-length own far q a)

pub row-length : (own far : List ℤ) (q : ℕ) (a : Action) → length a ≤ 4 → length (place (update_by own far q a)) ≡ 10
unfolding short
row-length own far q a h =
    place-length (update_by own far q a) (le-leb (length (update_by own far q a).pairs) 4 (omega (arith, pairs-length own far q a)))

module _ (own far : List ℤ) where
  -- the pairs of some assignments, as they are written
  unfoldable pub written : Action → List ℤ
  written [] = []
  written (x ∷ a) = pos x.target ∷ num_in own far x.value ∷ written a

  written-length : (a : Action) → length (written a) ≡ 2 * length a
  unfolding written
  written-length [] = refl
  written-length (x ∷ a) = let e = written-length a in omega arith

  written_next : (a : Action) (x : Assignment) (z : List ℤ)
      → written (a ++ (x ∷ [])) ++ z ≡ written a ++ (pos x.target ∷ num_in own far x.value ∷ z)
  unfolding written
  written_next [] x z = refl
  written_next (y ∷ a) x z = ap (λ l. pos y.target ∷ num_in own far y.value ∷ l) (written_next a x z)

  written-pairs : (q : ℕ) (a : Action)
      → flat_map (λ (p : Pair). pos p.channel ∷ p.value ∷ []) (update_by own far q a).pairs ≡ written a
  unfolding written update_by lists
  written-pairs q [] = refl
  written-pairs q (x ∷ a) = ap (λ l. pos x.target ∷ num_in own far x.value ∷ l) (written-pairs q a)

  -- a row with its first pairs written, and zeros behind them
  unfoldable pub row_of : ℕ → ℕ → ℕ → Action → List ℤ
  row_of q count i done = pos q ∷ pos count ∷ (written done ++ zeros (2 * (4 - i)))

  pub row-start : (q count : ℕ) → set (set (replicate 10 (pos 0)) 0 (pos q)) 1 (pos count) ≡ row_of q count 0 []
  unfolding row_of written zeros
  row-start q count = refl

  pub row_next : (q count i : ℕ) (done : Action) (x : Assignment) → length done ≡ i → i < 4
      → set (set (row_of q count i done) (2 + 2 * i) (pos x.target)) (3 + 2 * i) (num_in own far x.value)
      ≡ row_of q count (i + 1) (done ++ (x ∷ []))
  unfolding row_of zeros
  row_next q count i done x e h =
      let two : 2 * (4 - i) ≡ suc (suc (2 * (4 - (i + 1)))) = omega arith in
      let first : 2 + 2 * i ≡ suc (suc (2 * i)) = omega arith in
      let second : 3 + 2 * i ≡ suc (suc (suc (2 * i))) = omega arith in
      let w = written done in
      let t = pos x.target in
      let v = num_in own far x.value in
      let z = replicate (2 * (4 - (i + 1))) (pos 0) in
      let size : length w ≡ 2 * i = omega (arith, written-length done) in
      let size-2 : length (w ++ (t ∷ [])) ≡ suc (2 * i) = length-append w (t ∷ []) ∙ omega arith in
      let row : List ℤ → List ℤ = λ l. pos q ∷ pos count ∷ l in
      let one : set (w ++ (pos 0 ∷ pos 0 ∷ z)) (2 * i) t ≡ w ++ (t ∷ pos 0 ∷ z) = set_at w (pos 0) (pos 0 ∷ z) t (2 * i) size in
      let other : set ((w ++ (t ∷ [])) ++ (pos 0 ∷ z)) (suc (2 * i)) v ≡ (w ++ (t ∷ [])) ++ (v ∷ z) =
      set_at (w ++ (t ∷ [])) (pos 0) z v (suc (2 * i)) size-2 in
      ap (λ n. set (set (row (w ++ replicate n (pos 0))) (2 + 2 * i) t) (3 + 2 * i) v) two
      ∙ ap₂ (λ a b. set (set (row (w ++ (pos 0 ∷ pos 0 ∷ z))) a t) b v) first second
      ∙ ap (λ l. row (set l (suc (2 * i)) v)) (one ∙ sym (append_assoc w (t ∷ []) (pos 0 ∷ z)))
      ∙ ap row (other ∙ append_assoc w (t ∷ []) (v ∷ z) ∙ sym (written_next done x z))

  pub row-end : (q : ℕ) (a : Action) → row_of q (length a) (length a) a ≡ place (update_by own far q a)
  unfolding row_of pools update_by
  row-end q a =
      let numbers : Pair → List ℤ = λ p. pos p.channel ∷ p.value ∷ [] in
      ap (λ l. pos q ∷ pos (length a) ∷ (l ++ zeros (2 * (4 - length a)))) (sym (written-pairs q a))
      ∙ ap (λ n. pos q ∷ pos n ∷ (flat_map numbers (update_by own far q a).pairs ++ zeros (2 * (4 - n)))) (sym (pairs-length own far q a))

-- ---- the turns of the loop

-- i assignments of the action are written, and the others stand at `at`
pub record Writing (own far : List ℤ) (q : ℕ) (s : List ℕ) (a : Action) (numbers : List ℤ) (at i : ℕ) : Type 0 where
  pub done : Action
  pub rest : Action
  pub whole : done ++ rest ≡ a
  pub size : length done ≡ i
  pub few : length a ≤ 4
  pub lined : Lined (scope (length own) (length far)) s at rest
  pub row : numbers ≡ row_of own far q (length a) i done

-- the assignment of a turn
pub record Turn (own far : List ℤ) (q : ℕ) (s : List ℕ) (a : Action) (numbers : List ℤ) (at i : ℕ) : Type 0 where
  pub one : Assignment
  pub inside : at < length s
  pub target : get_or s at 0 ≡ one.target
  pub value : Stands (whole_num (scope (length own) (length far))) s (at + 1) one.value
  pub next : Writing own far q s a (set (set numbers (2 + 2 * i) (pos one.target)) (3 + 2 * i) (num_in own far one.value))
      (at + 2 + get_or s (at + 1) 0) (i + 1)

module _ (own far : List ℤ) (q : ℕ) (s : List ℕ) (a : Action) where
  pub writing-none : (at : ℕ) → ReadsAt s (action (scope (length own) (length far))) at a
      → Writing own far q s a (set (set (replicate 10 (pos 0)) 0 (pos q)) 1 (pos (get_or s at 0))) (at + 1) 0
  writing-none at r =
      let h = action-stands (scope (length own) (length far)) s at a r in
      record {
        done = [];
        rest = a;
        whole = refl;
        size = refl;
        few = h.few;
        lined = h.lined;
        row = row-start own far q (get_or s at 0) ∙ ap (λ n. row_of own far q n 0 []) h.count;
      }

  pub writing-next : (row : List ℤ) (at i : ℕ) → i < length a → Writing own far q s a row at i → Turn own far q s a row at i
  unfolding Lined
  writing-next row at i h w = go w.rest w.whole w.lined
    where
      small : i < 4
      small = omega (arith, w.few)

      go : (rest : Action) → w.done ++ rest ≡ a → Lined (scope (length own) (length far)) s at rest → Turn own far q s a row at i
      go [] e l = let n = ap length (sym (append-nil w.done) ∙ e) in absurd (omega (arith, n, w.size))
      go (x ∷ rest) e l =
          record {
            one = x;
            inside = l.0;
            target = l.1;
            value = l.2;
            next = record {
              done = w.done ++ (x ∷ []);
              rest = rest;
              whole = append_snoc w.done x rest ∙ e;
              size = length-append w.done (x ∷ []) ∙ ap (λ n. n + 1) w.size;
              few = w.few;
              lined = l.3;
              row = ap (λ r. set (set r (2 + 2 * i) (pos x.target)) (3 + 2 * i) (num_in own far x.value)) w.row
                  ∙ row_next own far q (length a) i w.done x w.size small;
            };
          }

  pub writing-end : (row : List ℤ) (at i : ℕ) → length a ≤ i → Writing own far q s a row at i → row ≡ place (update_by own far q a)
  writing-end row at i h w = go w.rest w.whole
    where
      all : w.done ≡ a → row ≡ place (update_by own far q a)
      all e =
          let n : i ≡ length a = sym w.size ∙ ap length e in
          w.row ∙ ap₂ (λ k l. row_of own far q (length a) k l) n e ∙ row-end own far q a

      go : (rest : Action) → w.done ++ rest ≡ a → row ≡ place (update_by own far q a)
      go [] e = all (sym (append-nil w.done) ∙ e)
      go (x ∷ rest) e =
          let n = sym (length-append w.done (x ∷ rest)) ∙ ap length e in
          absurd (omega (arith, n, w.size))
