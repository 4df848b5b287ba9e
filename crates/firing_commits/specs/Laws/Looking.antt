-- An update of the pool: what stands at its place, and the charge without it. Assumes nothing.
use Rattle.std.specs.Prelude.{ℕ, ◌*◌, ◌-◌, ◌^◌, ◌<◌, ◌≤◌, ◌≡◌, true, List, length, get_or, take, drop, ℤ, pos, nat_abs}
use Rattle.std.proofs.Common.{sym, ap₂, ◌∙◌, subst, arith, Fits}
use Rattle.std.proofs.Math.Path.{ap}
use Rattle.std.specs.Int.{w64}
use Rattle.lists.specs.Lists.{all_of}
use Rattle.lists.specs.Laws.Alls.{all_of-at}
use Rattle.deck.specs.Deck.{Deck, R, N}
use Rattle.charge.specs.Charge.{update_charge}
use Rattle.charge.specs.Memo.{capped}
use Rattle.deck.specs.declared.Deck as Counted
use Rattle.deck.proofs.Laws.Shape.{shape-R, shape-N}
use Rattle.pool.specs.Updates.{Update, channels, assign, charge}
use Rattle.pool.specs.Places.{place, pairs_of, update_of}
use Rattle.pool.specs.States.{known}
use Rattle.pool.proofs.Laws.Places.{update-back, place-length, place-well}
use Rattle.pool.specs.Fine.{short}
use Rattle.pool_holes.specs.Slots as Slots
use Rattle.pool_holes.specs.Slots.{Slot, hole, standing, before, fits, Spread}
use Rattle.pool_holes.proofs.Laws.Standing.{standing-pick, standing-inside}
use Rattle.pool_holes.proofs.Laws.Spread.{fits-short, spread_at}
use Rattle.pool_states.specs.Answer.{HoldsKnown, PlaceGives}
use Rattle.pool_states.specs.Fits.{within, IsNatural}
use Rattle.pool_states.specs.Laws.Fits.{within-natural}
use Rattle.pool_states.specs.Laws.Charges.{holds-natural, holds-number}
use Rattle.pool_states.specs.Laws.Places.{Place, place_of}
use Rattle.pool_states.specs.Laws.PairsHeld.{held-part, known-part}
use Rattle.firing.specs.Firing.{pick, without}
use Rattle.firing.specs.Evaluated.{Assignable, Compared}
use Rattle.firing.proofs.Laws.Commits.{without-charge}
use Rattle.deck.specs.Shape.{shape}
use Rattle.firing_commits.specs.Commits.{At, Looking, Looks}
use Rattle.firing_commits.specs.Laws.Applying.{held-few, held-assignable, held-long, held_update, held_back, held-undone}
use Rattle.firing_commits.specs.Laws.Applying.{held-changes}

-- ---- what code computes to lend the numbers of n pairs

pub few-fits : (n : ℕ) → n ≤ 4 → Fits w64 (2 * n)
few-fits n few = record { fits = omega arith }

few-inside : (n : ℕ) (back : List ℤ) → n ≤ 4 → length back ≡ 8 → 2 * n ≤ length back
few-inside n back few long = omega arith

pub looks-inside : {e : Deck} {vs pool after back : List ℤ} {m : List ℕ} {p part count c mask : ℕ}
    → Looks e p vs pool m after back part count c mask → length back ≡ 8 → 2 * count ≤ length back
looks-inside {back} {count} l long = few-inside count back l.few long

module _ {pool : List ℤ} {slots : List Slot} (w : Spread pool slots) (p : ℕ) (u : Update) (h : At slots p u) where
  -- the numbers of place p
  abbrev row : List ℤ
  row = take 10 (drop (10 * p) pool)

  taken-place : row ≡ place u
  unfolding Slots.row
  taken-place = spread_at w p h.inside ∙ ap Slots.row h.holds

  pub taken-update : update_of row ≡ u
  taken-update = ap update_of taken-place ∙ update-back u

  taken-short : short u ≡ true
  taken-short = fits-short u (ap fits (sym h.holds) ∙ all_of-at fits slots p hole w.fits h.inside)

  -- it is one of the pending ones
  taken-known : (e : Deck) → all_of (known e) (standing slots) ≡ true → known e u ≡ true
  taken-known e k =
      ap (known e) (sym (standing-pick slots p u h.inside h.holds u))
      ∙ all_of-at (known e) (standing slots) (before p slots) u k (standing-inside slots p u h.inside h.holds)

  pub taken-holds : (e : Deck) → all_of (known e) (standing slots) ≡ true → HoldsKnown e row
  taken-holds e k =
      subst (HoldsKnown e) (sym taken-place)
      (record {
        long = place-length u taken-short;
        written = place-well u;
        known = ap (known e) (update-back u) ∙ taken-known e k;
      })

-- the charge without update j
pub taken-charge : (e : Deck) (us : List Update) (j : ℕ) → j < length us → (c total : ℕ)
    → c ≡ capped (update_charge e (pick j us).part (channels (pick j us))) → total ≡ charge e us → total ≤ 65535
    → (c ≤ total) × (total - c ≡ charge e (without j us))
taken-charge e us j h c total same t low =
    let whole = without-charge e j us h in
    (omega (arith, same, whole, t, low), omega (arith, same, whole, t, low))

-- the same for what the code is lent
module _ {k : Counted.Deck} {rules parts memo : List ℕ} {pool : List ℤ} {p : ℕ} (w : Looking k rules parts memo pool p) where
  abbrev e : Deck
  e = shape rules parts k

  abbrev numbers : List ℤ
  numbers = take 10 (drop (10 * p) pool)

  pub looking-place : length pool * 4 < 2 ^ 63 → Place pool p
  looking-place small = place_of pool p (length w.slots) w.place.inside w.spread.room small

  pub looking-holds : HoldsKnown e numbers
  looking-holds = taken-holds w.spread p w.update w.place e w.known

  looking-few : (N e ≤ 16) × (R e ≤ 32)
  looking-few =
      let parts_same = shape-N rules parts k.channels k.rules k.parts in
      let channels-same = shape-R rules parts k.channels k.rules k.parts in
      (omega (arith, parts_same, w.ready.tables.few_parts), omega (arith, channels-same, w.few))

  -- the part, the pairs and their number
  pub looking-part : within k.parts (get_or numbers 0 (pos 0)) ≡ (update_of numbers).part
  looking-part =
      let h = looking-holds in
      let low = known-part e (update_of numbers) h.known in
      held-part k.parts numbers h.long h.written (omega (arith, low, shape-N rules parts k.channels k.rules k.parts))

  pub looking-low : (update_of numbers).part < 16
  looking-low = omega (arith, known-part e (update_of numbers) looking-holds.known, looking-few.0)

  pub looking-count : within 5 (get_or numbers 1 (pos 0)) < 5
  looking-count = held-few e numbers looking-holds

  -- as they are read
  pub looking-naturals : IsNatural (get_or numbers 0 (pos 0)) × IsNatural (get_or numbers 1 (pos 0))
  looking-naturals =
      (holds-natural e k.parts (shape-N rules parts k.channels k.rules k.parts) numbers looking-holds, (within-natural 5 _ looking-count).0)

  pub looking-numbers : (nat_abs (get_or numbers 0 (pos 0)) ≡ within k.parts (get_or numbers 0 (pos 0)))
      × (nat_abs (get_or numbers 1 (pos 0)) ≡ within 5 (get_or numbers 1 (pos 0)))
  looking-numbers =
      (holds-number e k.parts (shape-N rules parts k.channels k.rules k.parts) numbers looking-holds, (within-natural 5 _ looking-count).1)

  abbrev pairs : List ℤ
  pairs = take (2 * within 5 (get_or numbers 1 (pos 0))) (drop 2 numbers)

  pub looking-pairs : Assignable pairs × (length pairs ≡ 2 * within 5 (get_or numbers 1 (pos 0)))
  looking-pairs = (held-assignable e numbers looking-holds looking-few.1, held-long e numbers looking-holds)

  pub looks : (vs : List ℤ) {c mask part count : ℕ} {m : List ℕ} {after back : List ℤ} → length vs ≡ 512 → PlaceGives e numbers m c
      → part ≡ within k.parts (get_or numbers 0 (pos 0))
      → count ≡ within 5 (get_or numbers 1 (pos 0))
      → Compared part (take (2 * count) (drop 2 numbers)) vs back mask
      → after ≡ assign part (pairs_of (take (2 * count) (drop 2 numbers))) vs
      → Looks e p vs pool m after back part count c mask
  looks vs {c} {mask} {part} {count} {m} {after} {back} long g q n f a =
      let h = looking-holds in
      let part_is : part ≡ (update_of numbers).part = q ∙ looking-part in
      let few = looking-few in
      let found : Compared (update_of numbers).part pairs vs back mask = rw (n, part_is) at f in
      let after_is : after ≡ assign (update_of numbers).part (update_of numbers).pairs vs =
      a ∙ ap₂ (λ q k. assign q (pairs_of (take (2 * k) (drop 2 numbers))) vs) part_is n
      ∙ ap (λ l. assign (update_of numbers).part l vs) (held_update e numbers h) in
      record {
        result = λ slots u l i.
            let u = taken-update l p u i in (
              part_is ∙ ap (λ u. u.part) u,
              after_is ∙ ap (λ u. assign u.part u.pairs vs) u,
              g.value ∙ ap (λ u. capped (update_charge e u.part (channels u))) u,
            );
        few = omega (arith, n, looking-count);
        assignable = rw n (held_back e numbers h few.1 vs found);
        undone = rw (n, part_is, after_is) (held-undone e numbers h few.1 vs found);
        changes = rw (part_is, after_is) (held-changes e numbers h few.1 vs found few.0 long);
        memo = g.memo;
      }
