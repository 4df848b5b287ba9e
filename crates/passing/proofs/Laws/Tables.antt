-- The table of rules and the memo that a call lends: zeros, as many as its deck needs. Assumes nothing.
use Rattle.std.specs.Prelude.{ℕ, ◌≡◌, refl, Bool, true, false, cond, List, [], length, replicate}
use Rattle.std.proofs.Common.{sym, ap, ◌∙◌, arith}
use Rattle.deck.specs.Marks.{FewRules}
use Rattle.charge.specs.Memo.{memo_size}
use Rattle.passing.specs.Judged.{ZeroRules, ZeroMemo}

-- what was looked up of the deck decides
pub zero-rules : (s : List ℕ) {b few : Bool} → FewRules s b → b ≡ few → ZeroRules s (replicate (cond few 256 512) 0)
zero-rules s {few = true} f e = record { size = 256; zeros = refl; long = omega arith; fits = λ _. omega (arith, f.low e) }
zero-rules s {few = false} f e = record { size = 512; zeros = refl; long = omega arith; fits = λ h. omega (arith, h) }

pub zero-memo : (s : List ℕ) {b few : Bool} → FewRules s b → b ≡ few → ZeroMemo s (replicate (cond few 256 1024) 0)
unfolding memo_size
zero-memo s f e form m r =
    ap (λ b. replicate (cond b 256 1024) 0) (sym e ∙ f.right form (record { value = m; rest = []; at = length s }) r)
