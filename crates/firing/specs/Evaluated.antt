-- What the code of the firing evaluates at the offsets of the deck. Assumes nothing.
use Rattle.std.specs.Prelude.{ℕ, ◌+◌, ◌*◌, ◌<◌, ◌≡◌, not, List, map, length, get_or, take, ℤ, pos}
use Rattle.lists.specs.Lists.{select, eq_z}
use Rattle.lists.specs.Bits.{mask_of}
use Rattle.expression.specs.Syntax.{Num}
use Rattle.expression.specs.Reading.{whole_num}
use Rattle.expression.specs.Answers.{scope, num_in}
use Rattle.deck.specs.Deck.{Action}
use Rattle.deck.specs.Layout.{action}
use Rattle.deck.specs.Facts.{ReadsAt}
use Rattle.pool.specs.Updates.{Pair, Update, value_at}
use Rattle.pool.specs.Places.{place, pairs_of}
use Rattle.passing.specs.Stands.{Stands}

-- the number at an offset, for given numbers of own and far channels, and its value
abbrev pub HasNumber : List ℕ → ℕ → ℕ → ℕ → Type 0
HasNumber s at owns fars = (e : Num) × Stands (whole_num (scope owns fars)) s at e

abbrev pub NumberIs : List ℕ → ℕ → List ℤ → List ℤ → ℤ → Type 0
NumberIs s at own far r = (e : Num) → Stands (whole_num (scope (length own) (length far))) s at e → r ≡ num_in own far e

-- the action at an offset, and the update that it makes for part q
abbrev pub HasAction : List ℕ → ℕ → ℕ → ℕ → Type 0
HasAction s at owns fars = (a : Action) × ReadsAt s (action (scope owns fars)) at a

unfoldable pub update_by : List ℤ → List ℤ → ℕ → Action → Update
update_by own far q a = record { part = q; pairs = map (λ s. record { channel = s.target; value = num_in own far s.value }) a }

abbrev pub ActionIs : List ℕ → ℕ → ℕ → List ℤ → List ℤ → List ℤ → Type 0
ActionIs s at q own far r =
    (a : Action) → ReadsAt s (action (scope (length own) (length far))) at a → r ≡ place (update_by own far q a)

-- pairs whose channels are below 32
abbrev pub Assignable : List ℤ → Type 0
Assignable l = (i : ℕ) → 2 * i + 1 < length l → (c : ℕ) × (get_or l (2 * i) (pos 0) ≡ pos c) × (c < 32)

-- the pairs that set these channels to what the table holds
unfoldable pub held_pairs : ℕ → List ℤ → List Pair → List Pair
held_pairs p values l = map (λ a. record { channel = a.channel; value = value_at values p a.channel }) l

-- the channels of the pairs that hold another value
unfoldable pub channels_set : ℕ → List ℤ → List Pair → List ℕ
channels_set p values l = map (λ a. a.channel) (select (λ a. not (eq_z (value_at values p a.channel) a.value)) l)

-- r is the set of the channels that the pairs change at part p, and `back` begins with the pairs that set them back
pub record Compared (p : ℕ) (pairs values back : List ℤ) (r : ℕ) : Type 0 where
  pub held : pairs_of (take (length pairs) back) ≡ held_pairs p values (pairs_of pairs)
  pub assignable : Assignable (take (length pairs) back)
  pub mask : r ≡ mask_of (channels_set p values (pairs_of pairs))
