-- A part's limit, evaluated on the stretch of its channels. Assumes nothing.
use Rattle.std.specs.Prelude.{ℕ, ◌+◌, ◌*◌, ◌≤◌, ◌<◌, ◌≡◌, List, [], length, get_or, take, drop, ℤ, pos}
use Rattle.std.proofs.Common.{sym, ap, ◌∙◌, subst, arith, length-take, length-drop}
use Rattle.std.proofs.Math.Seq.{get_or-take, get_or-drop}
use Rattle.expression.specs.Reading.{whole_truth}
use Rattle.expression.specs.Answers.{scope, value_in, truth_in}
use Rattle.expression.proofs.Laws.Agreement.{truth-agree}
use Rattle.deck.specs.Deck.{Deck, R, N, part_at}
use Rattle.deck.specs.Layout.{truths, own_only}
use Rattle.deck.specs.Facts.{Formed}
use Rattle.deck.specs.Facts.{Scoped}
use Rattle.pool.specs.Updates.{index_of, value_at}
use Rattle.passing.specs.Check.{within, opening_values}
use Rattle.passing.specs.Stands.{Stands}
use Rattle.passing.specs.Tabled.{PartTable}
use Rattle.passing.proofs.Laws.Stands.{stands}
use Rattle.passing.proofs.Laws.Opening.{opening-long, opened-part}

-- the channels of a part, of n channels, as a stretch of the table
abbrev pub stretch_of : ℕ → ℕ → List ℤ → List ℤ
stretch_of n p values = take n (drop (32 * p) values)

module _ (n p : ℕ) (values : List ℤ) (fits : 32 * p + n ≤ length values) where
  pub stretch-length : length (stretch_of n p values) ≡ n
  stretch-length = omega (arith, length-take n (drop (32 * p) values), length-drop (32 * p) values)

  pub stretch-value : (c : ℕ) → c < n → value_in (stretch_of n p values) c ≡ value_at values p c
  unfolding value_at index_of
  stretch-value c h = get_or-take n (drop (32 * p) values) c (pos 0) h ∙ get_or-drop (32 * p) values c (pos 0)

module _ (d : Deck) (p : ℕ) (values : List ℤ) (known : Scoped d) (fits : 32 * p + R d ≤ length values) where
  pub limit-value : truth_in (stretch_of (R d) p values) [] (part_at d p).limit ≡ within d p values
  unfolding within own_only
  limit-value =
      truth-agree (own_only (R d)) (value_in (stretch_of (R d) p values)) (value_at values p) (value_in []) (value_at values p)
      (stretch-value (R d) p values fits)
      (λ c h. absurd (omega arith))
      (part_at d p).limit
      (known.limit p)

-- the limit stands at its offset, for values of all channels
pub limit-stands : (s parts : List ℕ) (d : Deck) (p : ℕ) → PartTable s d parts → p < N d → (own : List ℤ) → length own ≡ R d
    → Stands (whole_truth (scope (length own) 0)) s (get_or parts (4 * p + 2) 0) (part_at d p).limit
unfolding own_only
limit-stands s parts d p t h own e =
    subst (λ n. Stands (whole_truth (scope n 0)) s (get_or parts (4 * p + 2) 0) (part_at d p).limit) (sym e)
    (stands (truths (own_only (R d))) s (get_or parts (4 * p + 2) 0) (part_at d p).limit (t.limit p h))

-- a part opens within its limit where its opening values alone do
pub opens-value : (d : Deck) (p : ℕ) → Scoped d → Formed d → p < N d
    → truth_in (part_at d p).opening [] (part_at d p).limit ≡ within d p (opening_values d)
opens-value d p known f h =
    ap (λ l. truth_in l [] (part_at d p).limit) (sym (opened-part d f p h))
    ∙ limit-value d p (opening_values d) known (omega (arith, opening-long d f, f.channels, f.parts, h))
