-- The firing begins with the updates that the pool holds. Assumes nothing.
use Rattle.std.specs.Prelude.{ℕ, ◌<◌, ◌≤◌, ◌≡◌, true, false, not, List, [], length, ℤ}
use Rattle.std.proofs.Common.{sym, ap, ◌∙◌, subst, append-nil, arith}
use Rattle.lists.specs.Lists.{member, eq_z}
use Rattle.lists.specs.Laws.Below.{select-below}
use Rattle.lists.specs.Laws.Booleans.{contradiction}
use Rattle.deck.specs.Deck.{Deck, R}
use Rattle.deck.specs.declared.Deck as Counted
use Rattle.pool.specs.Updates.{charge, value_at}
use Rattle.passing.specs.Tabled.{deck_of}
use Rattle.deck.specs.Shape.{shape}
use Rattle.firing.specs.Firing.{changed}
use Rattle.firing.proofs.Laws.Enqueue.{enqueue-none}
use Rattle.pool_holes.specs.Slots.{Slot, standing, whole}
use Rattle.firing_queue.specs.Queue.{Held, Kept, Grown, Offering}
use Rattle.firing_rules.specs.Reactions.{Fires}
use Rattle.firing_rules.specs.Reactions.{Reacting, Reacts}
use Rattle.firing_queue.specs.declared.Queue.{Queue}

-- nothing has been offered yet
grown-first : (d : Deck) (slots : List Slot) (held : Held) (q : Queue) → Kept slots held → q.used ≡ length slots
    → q.charge ≡ charge d (standing slots) → q.charge ≤ q.capacity → q.full ≡ false → Grown d slots [] held q
unfolding whole
grown-first d slots held q k n t b not_full =
    let e = append-nil (standing slots) in
    let same = append-nil slots in
    record {
      extra = [];
      kept = subst (λ l. Kept l held) (sym same) k;
      used = n ∙ ap length (sym same);
      room = λ _. (e ∙ sym (enqueue-none (standing slots)), t ∙ ap (charge d) (sym e), b);
      over = λ f. contradiction f not_full;
    }

pub offering-first : {s : List ℕ} {k : Counted.Deck} {rules parts memo : List ℕ} {held : Held} {q : Queue}
    → Reacting s k rules parts memo held q → Offering rules parts k memo held q
offering-first {k = k} {rules} {parts} {held = held} {q} w =
    record {
      ready = w.ready;
      few = omega (arith, w.tabled.counts.channels, w.tabled.counts.formed.channels);
      slots = w.slots;
      room = w.room;
      new = [];
      grown = grown-first (shape rules parts k) w.slots held q w.kept w.count w.charged w.within w.not_full;
    }

-- the changed channels are channels
pub changed-low : (d : Deck) (p : ℕ) (before after : List ℤ) → R d ≤ 32 → (c : ℕ) → member c (changed d p before after) ≡ true → c < 32
unfolding changed
changed-low d p before after few c m =
    omega (arith, few, ((select-below (λ c. not (eq_z (value_at before p c) (value_at after p c))) (R d) c).0 m).0)

pub reacted : (s : List ℕ) (k : Counted.Deck) (rules parts : List ℕ) {memo : List ℕ} {held₀ : Held} {q₀ : Queue}
    → Reacting s k rules parts memo held₀ q₀ → (values : List ℤ) (p mask : ℕ) {m : List ℕ} {held : Held} {q : Queue}
    → Fires (deck_of s) values p mask (shape rules parts k) held₀ q₀ m held q
    → Reacts (deck_of s) (shape rules parts k) values p mask held₀ q₀ m held q
reacted s k rules parts {held₀ = held₀} {q₀} w values p mask f cs low e =
    let x = f cs low e in
    record {
      grown = λ slots l n t. x.grows slots [] (grown-first (shape rules parts k) slots held₀ q₀ l n t w.within w.not_full);
      capacity = x.capacity;
      memo = x.memo;
      size = x.size;
    }
