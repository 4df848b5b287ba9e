-- Laws of new updates that are offered one by one. Assumes nothing.
use Rattle.std.specs.Prelude.{ℕ, ◌≡◌, refl, List, [], ◌++◌}
use Rattle.std.proofs.Common.{sym, ◌∙◌, subst, append_assoc, append-nil, arith}
use Rattle.deck.specs.Deck.{Deck}
use Rattle.deck.specs.declared.Deck as Counted
use Rattle.charge.specs.Memo.{Memo}
use Rattle.pool.specs.Updates.{Update}
use Rattle.pool_holes.specs.Slots.{holes}
use Rattle.deck.specs.Shape.{shape}
use Rattle.pool_index.specs.Index.{heads_of}
use Rattle.firing_queue.specs.Queue.{Held, Room, SameSize, Grown, Offering, Offered}
use Rattle.firing_queue.specs.declared.Queue.{Queue}

-- ---- sizes

pub same_size : {h : Held} → SameSize h h
same_size = record { index = refl; pool = refl }

pub size-then : {h₀ h₁ h₂ : Held} → SameSize h₀ h₁ → SameSize h₁ h₂ → SameSize h₀ h₂
size-then a b =
    record { index = b.index ∙ a.index; pool = b.pool ∙ a.pool }

-- room is a matter of size
pub room-same : {C H : ℕ} {h₀ h : Held} → SameSize h₀ h → Room C H h₀ → Room C H h
unfolding heads_of
room-same {C} {H} {h₀} {h} s r =
    let roomy = r.index in
    record {
      bounded = r.bounded;
      places = omega (arith, s.pool, r.places);
      index = record {
        some = omega (arith, s.index, roomy.some);
        few = omega (arith, s.index, roomy.few);
        links = omega (arith, s.index, roomy.links);
      };
    }

-- ---- offers

module _ {d : Deck} {held₀ : Held} {q₀ : Queue} where
  -- nothing was offered
  pub offered-none : (m : List ℕ) → Memo d m → Offered d [] held₀ q₀ m held₀ q₀
  offered-none m r =
      record {
        grows = λ slots new g. subst (λ l. Grown d slots l held₀ q₀) (sym (append-nil new)) g;
        capacity = refl;
        memo = r;
        size = same_size;
      }

  -- the same updates, named otherwise
  pub offered-as : {a b : List Update} {m : List ℕ} {held : Held} {q : Queue} → b ≡ a → Offered d a held₀ q₀ m held q
      → Offered d b held₀ q₀ m held q
  offered-as {m} {held} {q} e o = subst (λ us. Offered d us held₀ q₀ m held q) (sym e) o

  -- some were, and then others
  pub offered-then : {a b : List Update} {m m' : List ℕ} {held held' : Held} {q q' : Queue} → Offered d a held₀ q₀ m held q
      → Offered d b held q m' held' q' → Offered d (a ++ b) held₀ q₀ m' held' q'
  offered-then {a} {b} {held'} {q'} x y =
      record {
        grows = λ slots new g.
            subst (λ l. Grown d slots l held' q') (append_assoc new a b) (y.grows slots (new ++ a) (x.grows slots new g));
        capacity = y.capacity ∙ x.capacity;
        memo = y.memo;
        size = size-then x.size y.size;
      }

-- what is left can be taken again
pub offering-next : {rules parts : List ℕ} {k : Counted.Deck} {memo m : List ℕ} {held₀ held : Held} {q₀ q : Queue}
    {fresh : List Update}
    → Offering rules parts k memo held₀ q₀ → Offered (shape rules parts k) fresh held₀ q₀ m held q
    → Offering rules parts k m held q
offering-next {held = held} {fresh = fresh} o x =
    record {
      ready = record { tables = o.ready.tables; memo = x.memo };
      few = o.few;
      slots = o.slots;
      room = subst (λ C. Room C (holes o.slots) held) (sym x.capacity) (room-same x.size o.room);
      new = o.new ++ fresh;
      grown = x.grows o.slots o.new o.grown;
    }
