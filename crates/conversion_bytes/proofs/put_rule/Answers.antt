-- `conversion_bytes::put_rule` meets its contract: a rule without its default action, and before it one with nothing else. Assumes nothing.
use Prim.Native.Nat.{ℕ, suc, ◌+◌, ◌-◌, ◌≤◌}
use mathlib.Core.Path.{◌≡◌, sym, ap, subst}
use mathlib.Core.List.{List, ◌++◌}
use native.Mathlib.Omega.{arith}
use lib.ListN.{length, get_or}
use Rattle.conversion_bytes.specs.Pieces.{none_bytes, here_bytes, split_bytes}
use Rattle.conversion_bytes.specs.Laws.Written.{written_is, written-more, room-first, room-behind}
use Rattle.conversion_bytes.proofs.put_rule.Goals as goal

-- what is written, with this count of default assignments
abbrev bytes : goal.After-put_new_rule-arg-1 → ℕ → List ℕ
bytes s n = split_bytes n s.args.events.now s.args.default.now s.args.task.now

-- what is written, with this count of default assignments
abbrev bytes-2 : goal.After-put_new_rule-arg-2-1 → ℕ → List ℕ
bytes-2 s n = split_bytes n s.args.events.now s.args.default.now s.args.task.now

-- what is written, with this count of default assignments
abbrev bytes-3 : goal.After-put_new_rule-arg-3-1 → ℕ → List ℕ
bytes-3 s n = split_bytes n s.args.events.now s.args.default.now s.args.task.now

-- what is written, with this count of default assignments
abbrev bytes-4 : goal.After-slice_known-then-default-eq-NO_DEFAULT-1 → ℕ → List ℕ
bytes-4 s n = split_bytes n s.args.events.now s.args.default.now s.args.task.now

-- what is written, with this count of default assignments
abbrev bytes-5 : goal.After-slice_known-3-1 → ℕ → List ℕ
bytes-5 s n = split_bytes n s.args.events.now s.args.default.now s.args.task.now

room : (s : goal.After-put_new_rule-arg-1) (n : ℕ) → get_or s.args.default.now 0 0 ≡ n → s.args.at + length (bytes s n) ≤ length s.args.out.now
room s n e = subst (λ k. s.args.at + length (bytes s k) ≤ length s.args.out.now) e s.requires.1

room-2 : (s : goal.After-put_new_rule-arg-2-1) (n : ℕ) → get_or s.args.default.now 0 0 ≡ n → s.args.at + length (bytes-2 s n) ≤ length s.args.out.now
room-2 s n e = subst (λ k. s.args.at + length (bytes-2 s k) ≤ length s.args.out.now) e s.requires.1

room-3 : (s : goal.After-put_new_rule-arg-3-1) (n : ℕ) → get_or s.args.default.now 0 0 ≡ n → s.args.at + length (bytes-3 s n) ≤ length s.args.out.now
room-3 s n e = subst (λ k. s.args.at + length (bytes-3 s k) ≤ length s.args.out.now) e s.requires.1

-- a default action that is not empty
some : (e : goal.After-put_new_rule-arg-2-1) → get_or e.args.default.now 0 0 ≡ suc (get_or e.args.default.now 0 0 - 1)
some e = omega (arith, e.if-default-eq-NO_DEFAULT.false)

-- a default action that is not empty
some-2 : (e : goal.After-put_new_rule-arg-3-1) → get_or e.args.default.now 0 0 ≡ suc (get_or e.args.default.now 0 0 - 1)
some-2 e = omega (arith, e.if-default-eq-NO_DEFAULT.false)

-- a default action that is not empty
some-3 : (e : goal.After-slice_known-3-1) → get_or e.args.default.now 0 0 ≡ suc (get_or e.args.default.now 0 0 - 1)
some-3 e = omega (arith, e.if-default-eq-NO_DEFAULT.false)

-- what is written first, and behind it
abbrev first : goal.After-put_new_rule-arg-2-1 → List ℕ
first s = s.args.events.now ++ (here_bytes ++ s.args.default.now)

-- what is written first, and behind it
abbrev first-2 : goal.After-put_new_rule-arg-3-1 → List ℕ
first-2 s = s.args.events.now ++ (here_bytes ++ s.args.default.now)

abbrev second : goal.After-put_new_rule-arg-2-1 → List ℕ
second s = s.args.events.now ++ (none_bytes ++ s.args.task.now)

abbrev second-2 : goal.After-put_new_rule-arg-3-1 → List ℕ
second-2 s = s.args.events.now ++ (none_bytes ++ s.args.task.now)

pub put_new_rule-requires : goal.put_new_rule-requires
unfolding split_bytes
put_new_rule-requires c =
    room c 0 c.if-default-eq-NO_DEFAULT.true

pub returns-then-default-eq-NO_DEFAULT : goal.returns-then-default-eq-NO_DEFAULT
unfolding split_bytes
returns-then-default-eq-NO_DEFAULT c =
    written_is (ap (bytes-4 c) (sym c.if-default-eq-NO_DEFAULT.true)) c.put_new_rule.ensures

pub put_new_rule-next-requires : goal.put_new_rule-next-requires
unfolding split_bytes
put_new_rule-next-requires c =
    room-first (length c.args.out.now) c.args.at (first c) (second c) (room-2 c _ (some c))

pub put_new_rule-requires-2 : goal.put_new_rule-requires-2
unfolding split_bytes
put_new_rule-requires-2 c =
    room-behind (first-2 c) (second-2 c) c.put_new_rule-next.ensures (room-3 c _ (some-2 c))

pub returns : goal.returns
unfolding split_bytes
returns c =
    written_is (ap (bytes-5 c) (sym (some-3 c)))
    (written-more c.put_new_rule-next.ensures c.put_new_rule-2.ensures)
