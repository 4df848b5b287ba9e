-- Input answers what the tests come to, and then what an input on what was tested comes to. Assumes nothing.
use Rattle.std.specs.Prelude.{ℕ, ◌≡◌, List, length, ℤ}
use Rattle.std.proofs.Common.{sym, ap₂, ◌∙◌}
use Rattle.refusals.specs.Outcome.{Outcome, refused, accepted, outcomes}
use Rattle.deck.specs.Deck.{Deck}
use Rattle.deck.specs.declared.Deck as Counted
use Rattle.pool.specs.Places.{capacity}
use Rattle.pool.specs.States.{Memory, load}
use Rattle.passing.specs.Tabled.{deck_of}
use Rattle.calls.specs.Calls.{Answer, Done, reply, tested, input, input_as}
use Rattle.calls.specs.Answers.{memory_at, reply_at}
use Rattle.calls_tests.specs.Tested.{TestsPassed}
use Rattle.calls_input.specs.Entered.{entered, Leaves, Enters}
use Rattle.calls_tests.specs.Laws.StoredMemory.{left-memory}

input-entered : (s : List ℕ) (m : Memory) (p : ℕ) (l : List ℤ) (d : Deck) → tested s m ≡ accepted d
    → input s m p l ≡ reply m (entered d (capacity (length m.pool)) (load m) p l)
unfolding input_as entered outcomes
input-entered s m p l d e = rw e

-- what is left of an outcome is its reply
left-reply : (o : Outcome Done) (vs₀ : List ℤ) (pending₀ : ℕ) (pool₀ : List ℤ)
    (answer : Outcome Answer) (vs : List ℤ) (pending : ℕ) (pool : List ℤ) → length pool ≡ length pool₀
    → Leaves o vs₀ pending₀ pool₀ answer vs pending pool
    → reply_at answer vs pending pool ≡ reply (memory_at vs₀ pending₀ pool₀) o
unfolding reply
left-reply (refused n p) vs₀ pending₀ pool₀ answer vs pending pool long h =
    ap₂ (λ a v. reply_at a v pending pool) h.0 h.1
    ∙ ap₂ (reply_at (refused n p) vs₀) h.2 h.3
left-reply (accepted a) vs₀ pending₀ pool₀ answer vs pending pool long h =
    ap₂ (λ x m. record { answer = x; memory = m }) h.0
    (left-memory a.machine vs pending pool (length pool₀) h.1 long)

pub input-answers : {s rules parts memo index : List ℕ} {vs₀ : List ℤ} {pending₀ : ℕ} {pool₀ : List ℤ} {k : Counted.Deck} {total : ℕ}
    → TestsPassed s rules parts memo index (memory_at vs₀ pending₀ pool₀) k total
    → (p : ℕ) (l : List ℤ) {answer : Outcome Answer} {vs : List ℤ} {pending : ℕ} {pool : List ℤ} → length pool ≡ length pool₀
    → Enters s vs₀ pending₀ total index pool₀ p l answer vs pending pool
    → reply_at answer vs pending pool ≡ input s (memory_at vs₀ pending₀ pool₀) p l
input-answers {s} {vs₀ = vs₀} {pending₀ = pending₀} {pool₀ = pool₀} w p l {answer} {vs} {pending} {pool} long h =
    let m = memory_at vs₀ pending₀ pool₀ in
    let d = deck_of s in
    let C = capacity (length pool₀) in
    left-reply (entered d C (load m) p l) vs₀ pending₀ pool₀ answer vs pending pool long (h (load m) w.loaded)
    ∙ sym (input-entered s m p l d w.accepted)
