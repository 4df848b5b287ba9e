-- Laws of an index: of no places, with one more at the end, and with one taken out. Assumes nothing.
use Rattle.std.specs.Prelude.{ℕ, zero, suc, ◌+◌, ◌*◌, ◌≤◌, ◌<◌, ◌≡◌, refl, ◌⊎◌, true, false, not, List, [], ◌∷◌, ◌++◌, length, get_or, set, replicate, ℤ}
use Rattle.std.proofs.Common.{sym, ap, subst, ◌∙◌, ⊎_elim, inl, inr, eq-or-lt_of_le, arith, length-append, length-set, get_or-set_same, get_or-set_other, ne_eqb}
use Rattle.std.proofs.Math.Decide.{ℕ_discrete}
use Rattle.std.proofs.Math.ListN.{get_or-append}
use Rattle.std.proofs.Math.Seq.{get_or-append_seam}
use Rattle.lists.specs.Lists.{lists, is_empty}
use Rattle.lists.specs.Laws.Booleans.{contradiction}
use Rattle.pool.specs.Updates.{Pair, Update}
use Rattle.pool.specs.Places.{place, pools}
use Rattle.pool_index.specs.Hash.{bucket_of}
use Rattle.pool_index.specs.Index.{heads_of, owner_of, Leads, Ends, lives, Ordered, Indexed}
use Rattle.pool_index.specs.Laws.Ways.{leads-set, ends_set, ends-free, ends-inside, head-owner}

-- ---- lengths

pub heads-same : (a b : List ℕ) → length a ≡ length b → heads_of a ≡ heads_of b
unfolding heads_of
heads-same a b e = rw e refl

-- ---- no places

zero-at : (n i : ℕ) → ◌≡◌ {A = ℕ} (get_or (replicate n 0) i 0) 0
zero-at zero i = refl
zero-at (suc n) zero = refl
zero-at (suc n) (suc i) = zero-at n i

module _ (index : List ℕ) (e : index ≡ replicate (length index) 0) where
  all-free : (s : ℕ) → get_or index s 0 ≡ 0
  all-free s = ap (λ l. get_or l s 0) e ∙ zero-at (length index) s

  pub indexed-none : heads_of index ≤ length index → Indexed [] index
  indexed-none h =
      record {
        leads = λ p l _. absurd (omega arith);
        ordered = record { slots = λ s l. inl (all-free s); inside = omega (arith, h) };
      }

-- ---- one more at the end

module _ {ks : List (List ℤ)} {index : List ℕ} (ix : Indexed ks index) (row : List ℤ) (e : ℕ)
    (w : Ends (heads_of index) index row 0 (bucket_of (heads_of index) row) e) (low : bucket_of (heads_of index) row < heads_of index)
    (room : heads_of index + 2 * (length ks + 1) ≤ length index) where
  abbrev heads : ℕ
  heads = heads_of index

  abbrev new : List ℕ
  new = set index e (suc (length ks))

  ending : (e < length index) × (owner_of heads e ≤ length ks)
  ending =
      ends-inside ix.ordered (omega (arith, low, room)) (omega (arith, head-owner heads (bucket_of heads row) low)) w

  same-heads : heads_of new ≡ heads
  same-heads = heads-same new index (length-set index e (suc (length ks)))

  more : length (ks ++ row ∷ []) ≡ length ks + 1
  more = length-append ks (row ∷ [])

  abbrev Led : ℕ → List ℤ → Type 0
  Led p r = Leads heads new r 0 (bucket_of heads r) (suc p)

  lead-old : (p : ℕ) → p < length ks → lives (get_or (ks ++ row ∷ []) p []) ≡ true → Led p (get_or (ks ++ row ∷ []) p [])
  lead-old p l live =
      let same = get_or-append ks (row ∷ []) [] p l in
      subst (Led p) (sym same) (leads-set e (suc (length ks)) (ends-free w) (ix.leads p l (ap lives (sym same) ∙ live)))

  lead-new : Led (length ks) (get_or (ks ++ row ∷ []) (length ks) [])
  lead-new = subst (Led (length ks)) (sym (get_or-append_seam ks row [] [])) (ends_set (length ks) ending.0 w)

  lead : (p : ℕ) → p < length (ks ++ row ∷ []) → lives (get_or (ks ++ row ∷ []) p []) ≡ true → Led p (get_or (ks ++ row ∷ []) p [])
  lead p l live =
      ⊎_elim
      (λ (q : p ≡ length ks). rw q lead-new)
      (λ (m : p < length ks). lead-old p m live)
      (eq-or-lt_of_le (omega (arith, more)))

  slot : (s : ℕ) → s < length index → Dec (s ≡ e)
      → (get_or new s 0 ≡ 0) ⊎ ((owner_of heads s < get_or new s 0) × (get_or new s 0 ≤ length ks + 1))
  slot s l (yes q) =
      let v = ap (λ x. get_or new x 0) q ∙ get_or-set_same index e (suc (length ks)) 0 ending.0 in
      inr (omega (arith, v, ap (owner_of heads) q, ending.1), omega (arith, v))
  slot s l (no q) =
      let v = get_or-set_other index e s (suc (length ks)) 0 q in
      ⊎_elim (λ f. inl (v ∙ f)) (λ r. inr (omega (arith, v, r.0), omega (arith, v, r.1))) (ix.ordered.slots s l)

  pub indexed-more : Indexed (ks ++ row ∷ []) (set index e (suc (length ks)))
  indexed-more =
      let long = length-set index e (suc (length ks)) in
      record {
        leads = λ p l live.
            subst (λ h. Leads h new (get_or (ks ++ row ∷ []) p []) 0 (bucket_of h (get_or (ks ++ row ∷ []) p [])) (suc p)) (sym same-heads)
            (lead p l live);
        ordered =
            subst (λ h. Ordered h (length (ks ++ row ∷ [])) new) (sym same-heads)
            (subst (λ n. Ordered heads n new) (sym more)
            (record { slots = λ s l. slot s (omega (arith, long)) (ℕ_discrete s e); inside = omega (arith, long, room) }));
      }

  pub more-inside : e < length index
  more-inside = ending.0

-- ---- one taken out: the index stays

pub indexed-taken : {ks : List (List ℤ)} {index : List ℕ} (k : ℕ) (none : List ℤ) → lives none ≡ false → Indexed ks index
    → Indexed (set ks k none) index
indexed-taken {ks} {index} k none dead ix =
    let long = length-set ks k none in
    record {
      leads = λ p l live. go p (omega (arith, long)) (ℕ_discrete p k) live;
      ordered = subst (λ n. Ordered (heads_of index) n index) (sym long) ix.ordered;
    }
  where
    go : (p : ℕ) → p < length ks → Dec (p ≡ k) → lives (get_or (set ks k none) p []) ≡ true
        → Leads (heads_of index) index (get_or (set ks k none) p []) 0 (bucket_of (heads_of index) (get_or (set ks k none) p [])) (suc p)
    go p l (yes q) live =
        contradiction live (ap lives (ap (λ x. get_or (set ks k none) x []) q ∙ get_or-set_same ks k none [] (omega (arith, q))) ∙ dead)
    go p l (no q) live =
        let same = get_or-set_other ks k p none [] q in
        subst (λ r. Leads (heads_of index) index r 0 (bucket_of (heads_of index) r) (suc p)) (sym same)
        (ix.leads p l (ap lives (sym same) ∙ live))

-- ---- the numbers of updates

-- an update with a pair lives
first-pair : (p : ℕ) (l : List Pair) → not (is_empty l) ≡ true → lives (place (record { part = p; pairs = l })) ≡ true
unfolding lists pools lives
first-pair p [] h = contradiction h refl
first-pair p (a ∷ l) h = ap not (ne_eqb (suc (length l)) 0 (λ e. omega (arith, e)))

pub place-lives : (u : Update) → not (is_empty u.pairs) ≡ true → lives (place u) ≡ true
place-lives u h = first-pair u.part u.pairs h
