-- What a reader or a call comes to: a value, or a refusal with its number and place. Assumes nothing.
use Rattle.std.specs.Prelude.{ℕ, Bool, true, false, List, [], ◌∷◌}

pub data Outcome (A : Type 0) : Type 0 where
  refused : ℕ → ℕ → Outcome A  -- number and place
  accepted : A → Outcome A

-- `do` goes on with what was accepted, and ends with the first refusal
infixl 20 ◌>>=◌ ◌>>◌
unfoldable pub ◌>>=◌ : {A B : Type 0} → Outcome A → (A → Outcome B) → Outcome B
◌>>=◌ (refused n p) f = refused n p
◌>>=◌ (accepted a) f = f a

unfoldable pub ◌>>◌ : {A B : Type 0} → Outcome A → Outcome B → Outcome B
◌>>◌ (refused n p) o = refused n p
◌>>◌ (accepted a) o = o

-- refused with this number and place unless the test holds
unfoldable pub require : Bool → ℕ → ℕ → Outcome (Unit {0})
require true n p = accepted tt
require false n p = refused n p

-- refused with this number where there is an offending place; the place is the first of the list
unfoldable pub require_none : List ℕ → ℕ → Outcome (Unit {0})
require_none [] n = accepted tt
require_none (p ∷ ps) n = refused n p

-- to open all definitions of this file, on an `unfolding` line
unfoldable pub outcomes : Unit {0}
unfolding ◌>>=◌ ◌>>◌ require require_none
outcomes = tt
