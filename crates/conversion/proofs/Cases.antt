-- Cases: an old deck of 65 bytes and its conversion of 73, what the converter refuses, and what it leaves in the buffer. Assumes
-- nothing.
use Rattle.std.specs.Prelude.{ℕ, ◌-◌, ◌≡◌, refl, length, replicate, take, get_or}
use mathlib.Core.List.{List, [], ◌∷◌, ◌++◌, map, flat_map}
use Rattle.lists.specs.Lists.{lists}
use Rattle.refusals.specs.Outcome.{Outcome, refused, accepted, outcomes}
use Rattle.expression.specs.Reading.{reading_expressions}
use Rattle.expression.specs.Faults.{faults}
use Rattle.expression.specs.Encoding.{encoding_expressions}
use Rattle.expression.specs.Values.{evaluation}
use Rattle.deck.specs.Deck.{decks}
use Rattle.deck.specs.Reader.{readers}
use Rattle.deck.specs.Layout.{layouts}
use Rattle.deck.specs.Encoding.{encodings}
use Rattle.deck.proofs.Cases.{old_deck, with_byte}
use Rattle.graph.specs.Graph.{graphs}
use Rattle.charge.specs.Charge.{charges}
use Rattle.pool.specs.Updates.{updates}
use Rattle.pool.specs.Places.{pools}
use Rattle.passing.specs.Check.{checks}
use Rattle.conversion.specs.Converted.{converting}
use Rattle.conversion.specs.Conversion.{conversion, convert, conversions}

-- what the old deck of `deck` becomes
abbrev pub new_deck : List ℕ
new_deck =
    (3 ∷ 97 ∷ 98 ∷ 99 ∷ 3 ∷ [])
    ++ (1 ∷ 0 ∷ 0 ∷ 0 ∷ 1 ∷ 17 ∷ 1 ∷ 1 ∷ 2 ∷ 1 ∷ 0 ∷ [])
    ++ (1 ∷ 0 ∷ 0 ∷ 1 ∷ 1 ∷ 17 ∷ 1 ∷ 2 ∷ 2 ∷ 1 ∷ 0 ∷ [])
    ++ (1 ∷ 1 ∷ 0 ∷ 0 ∷ 1 ∷ 17 ∷ 1 ∷ 2 ∷ 2 ∷ 1 ∷ 1 ∷ [])
    ++ (2 ∷ [])
    ++ replicate 12 0
    ++ (3 ∷ 0 ∷ 1 ∷ 2 ∷ 1 ∷ 17 ∷ [])
    ++ replicate 12 0
    ++ 1 ∷ 2 ∷ 1 ∷ 17 ∷ []

-- to open all that a conversion is made of, on an `unfolding` line: reading and writing a deck, and what the check asks besides
unfoldable reading_and_writing : Unit {0}
unfolding lists outcomes reading_expressions faults encoding_expressions decks readers layouts encodings converting conversions
reading_and_writing = tt

unfoldable checking : Unit {0}
unfolding evaluation graphs charges updates pools checks
checking = tt

-- the bytes that are written
abbrev written : Outcome (List ℕ) → List ℕ
written (refused n p) = []
written (accepted new) = new

-- the old deck becomes the new one, and a deck without default actions itself
pub convert-cases : (length old_deck ∷ length new_deck ∷ []) ∷ map written (conversion old_deck 73 ∷ conversion new_deck 73 ∷ [])
    ≡ (65 ∷ 73 ∷ []) ∷ new_deck ∷ new_deck ∷ []
unfolding reading_and_writing checking
convert-cases = refl

-- a task whose condition is false: the default becomes a rule under condition true
abbrev never_done : List ℕ → List ℕ
never_done rules = (2 ∷ 97 ∷ 98 ∷ []) ++ rules ++ (1 ∷ []) ++ replicate 8 0 ++ 0 ∷ 1 ∷ 17 ∷ []

pub condition-case : written (conversion (never_done (1 ∷ 1 ∷ 0 ∷ 1 ∷ 1 ∷ 2 ∷ 1 ∷ 0 ∷ 0 ∷ 1 ∷ 16 ∷ 0 ∷ [])) 100)
    ≡ never_done ((2 ∷ []) ++ (1 ∷ 0 ∷ 0 ∷ 0 ∷ 1 ∷ 17 ∷ 1 ∷ 1 ∷ 2 ∷ 1 ∷ 0 ∷ []) ++ 1 ∷ 0 ∷ 0 ∷ 0 ∷ 1 ∷ 16 ∷ 0 ∷ [])
unfolding reading_and_writing checking
condition-case = refl

-- number and place of a refusal, or the length
abbrev shown : Outcome ℕ → List ℕ
shown (refused n p) = n ∷ p ∷ []
shown (accepted n) = n ∷ []

-- what is answered where a buffer of n bytes is lent, all 7, and what it then holds
abbrev lending : ℕ → List ℕ → List (List ℕ)
lending n bytes = let r = convert bytes (replicate n 7) in shown r.answer ∷ r.buffer ∷ []

-- a refusal leaves the buffer, and behind the deck it stays as it was
pub buffer-cases : flat_map (λ n. lending n old_deck) (72 ∷ 73 ∷ 80 ∷ [])
    ≡ (22 ∷ 0 ∷ []) ∷ replicate 72 7 ∷ (73 ∷ []) ∷ new_deck ∷ (73 ∷ []) ∷ (new_deck ++ replicate 7 7) ∷ []
unfolding reading_and_writing checking
buffer-cases = refl

-- the old check's number and place, and so before 21 and 22
pub refused-cases : map (λ bytes. shown (convert bytes []).answer)
    (with_byte 7 5
    ∷ with_byte 10 7
    ∷ with_byte 10 2
    ∷ take 7 old_deck
    ∷ take 8 old_deck
    ∷ (old_deck ++ 0 ∷ [])
    ∷ with_byte 8 0  -- a to a
    ∷ old_deck
    ∷ [])
    ≡ (2 ∷ 7 ∷ []) ∷ (3 ∷ 10 ∷ []) ∷ (18 ∷ 10 ∷ []) ∷ (1 ∷ 7 ∷ []) ∷ (1 ∷ 8 ∷ []) ∷ (5 ∷ 65 ∷ []) ∷ (7 ∷ 0 ∷ []) ∷ (22 ∷ 0 ∷ []) ∷ []
unfolding reading_and_writing checking
refused-cases = refl

-- 33 rules, n of them with a default action, and a part that carries none
abbrev many_rules : ℕ → List ℕ
many_rules n =
    (2 ∷ 97 ∷ 98 ∷ 33 ∷ [])
    ++ flat_map (λ default. (1 ∷ 0 ∷ []) ++ default ++ 0 ∷ 1 ∷ 17 ∷ 0 ∷ [])
    (replicate n (1 ∷ 1 ∷ 2 ∷ 1 ∷ 0 ∷ []) ++ replicate (33 - n) (0 ∷ []))
    ++ (1 ∷ []) ++ replicate 8 0 ++ 0 ∷ 1 ∷ 17 ∷ []

-- 65 rules would result, then 64 do; 21 comes before 22
pub rule-cases : map (λ n. shown (convert (many_rules 32) (replicate n 7)).answer) (0 ∷ 1000 ∷ [])
    ++ map (λ bytes. length bytes ∷ get_or bytes 3 0 ∷ []) (written (conversion (many_rules 31) 1000) ∷ [])
    ≡ (21 ∷ 0 ∷ []) ∷ (21 ∷ 0 ∷ []) ∷ (588 ∷ 64 ∷ []) ∷ []
unfolding reading_and_writing checking
rule-cases = refl
