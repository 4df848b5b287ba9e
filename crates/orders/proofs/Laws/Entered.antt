-- What enters values, by (INPUT), and that it ends in one state. Assumes nothing.
use Rattle.std.specs.Prelude.{ℕ, ◌≡◌, refl, true, List, ltb}
use Rattle.std.proofs.Math.Path.{sym}
use Rattle.std.proofs.Common.{◌∙◌}
use Rattle.lists.specs.Lists.{all_of}
use Rattle.deck.specs.Deck.{Deck, R}
use Rattle.deck.specs.Facts.{Scoped}
use Rattle.pool.specs.Updates.{Pair}
use Rattle.pool.proofs.Laws.Values.{channels_in}
use Rattle.orders.specs.Calculus.{Agree, Task, Program, Node, enters, sent_tasks, Input, Acts, input, program_of}

-- what enters values: (INPUT)
pub entered : (P : Program) (n n' : Node) (upd : List Pair) (ts : List Task) → Acts P n (enters upd ts) n'
    → Input P n upd n' × (ts ≡ sent_tasks P n upd n')
entered P n n' upd ts (input i) = (i, refl)

module _ (d : Deck) (scoped : Scoped d) (p : ℕ) (n a b : Node) (upd : List Pair)
    (few : all_of (λ c. ltb c (R d)) (channels_in upd) ≡ true) where
  abbrev Q : Program
  Q = program_of d p

  pub input-state : Input Q n upd a → Input Q n upd b → Agree (R d) a.state b.state
  unfolding program_of
  input-state e f c lc = e.state c lc ∙ sym (f.state c lc)
