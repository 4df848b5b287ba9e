-- Cases: what is easy to get wrong in reading a deck. Assumes nothing.
use Rattle.std.specs.Prelude.{ℕ, suc, ◌≡◌, refl, List, [], ◌∷◌, ◌++◌, map, length, replicate, take, drop}
use Rattle.lists.specs.Lists.{lists}
use Rattle.refusals.specs.Outcome.{Outcome, refused, accepted}
use Rattle.expression.specs.Reading.{reading_expressions}
use Rattle.expression.specs.Faults.{faults}
use Rattle.deck.specs.declared.Form.TheVariants.{Old, New}
use Rattle.deck.specs.Deck.{R, M, N, decks}
use Rattle.deck.specs.Reader.{readers}
use Rattle.deck.specs.Layout.{Layout, read, layouts}

-- two channels, one rule that begins at offset 4, and one part that carries it
abbrev deck_of : List ℕ → List ℕ
deck_of rule = (2 ∷ 97 ∷ 98 ∷ 1 ∷ []) ++ rule ++ 1 ∷ 0 ∷ 0 ∷ 0 ∷ 0 ∷ 0 ∷ 0 ∷ 0 ∷ 0 ∷ 1 ∷ 0 ∷ 1 ∷ 17 ∷ []

-- number and place of a refusal; R, M, N and the offsets of the last two sections of a deck
abbrev pub shown : Outcome Layout → List ℕ
shown (refused n p) = n ∷ p ∷ []
shown (accepted l) = R l.deck ∷ M l.deck ∷ N l.deck ∷ l.rules_at ∷ l.parts_at ∷ []

pub layout-cases : map (λ rule. shown (read New (deck_of rule)))
    ((1 ∷ 0 ∷ 0 ∷ 1 ∷ 1 ∷ 17 ∷ 1 ∷ 1 ∷ 2 ∷ 2 ∷ 0 ∷ [])  -- everywhere, b set to far a
    ∷ (1 ∷ 0 ∷ 0 ∷ 0 ∷ 1 ∷ 17 ∷ 1 ∷ 1 ∷ 2 ∷ 2 ∷ 0 ∷ [])  -- the same, here
    ∷ (1 ∷ 0 ∷ 0 ∷ 0 ∷ 1 ∷ 17 ∷ 1 ∷ 2 ∷ 2 ∷ 1 ∷ 0 ∷ [])  -- target 2 of two channels
    ∷ (1 ∷ 0 ∷ 0 ∷ 0 ∷ 1 ∷ 17 ∷ 2 ∷ 1 ∷ 2 ∷ 1 ∷ 0 ∷ 1 ∷ 99 ∷ [])  -- a second target, before a bad length
    ∷ (8 ∷ 0 ∷ 1 ∷ 1 ∷ [])  -- eight events in range; the third does not rise
    ∷ [])
    ≡ (2 ∷ 1 ∷ 1 ∷ 3 ∷ 15 ∷ []) ∷ (18 ∷ 13 ∷ []) ∷ (2 ∷ 11 ∷ []) ∷ (4 ∷ 15 ∷ []) ∷ (2 ∷ 7 ∷ []) ∷ []
unfolding lists decks readers reading_expressions layouts faults
layout-cases = refl

-- a deck that ends inside an expression ends there, whatever the bytes that are there
pub ends-case : shown (read New (2 ∷ 97 ∷ 98 ∷ 1 ∷ 1 ∷ 0 ∷ 0 ∷ 0 ∷ 2 ∷ 99 ∷ [])) ≡ 1 ∷ 10 ∷ []
unfolding lists decks readers reading_expressions layouts faults
ends-case = refl

-- document 02, Req 02: a condition whose length byte stands at 8, its bytes from 9 on; of a rule "here" (0) or "everywhere" (1)
abbrev condition : ℕ → List ℕ → List ℕ
condition kind bytes = shown (read New (deck_of ((1 ∷ 0 ∷ 0 ∷ kind ∷ length bytes ∷ bytes) ++ 0 ∷ [])))

pub here-cases : map (condition 0)
    ((7 ∷ [])
    ∷ (1 ∷ [])  -- 18 at the operator, before 19 behind it
    ∷ (18 ∷ [])
    ∷ (17 ∷ 17 ∷ [])
    ∷ (18 ∷ 1 ∷ 0 ∷ [])
    ∷ (21 ∷ 1 ∷ 0 ∷ 1 ∷ 2 ∷ [])
    ∷ (21 ∷ 1 ∷ 0 ∷ 1 ∷ [])
    ∷ (21 ∷ 0 ∷ 5 ∷ 0 ∷ [])
    ∷ (21 ∷ 17 ∷ 7 ∷ [])
    ∷ (21 ∷ 7 ∷ 17 ∷ [])
    ∷ (21 ∷ 2 ∷ 0 ∷ 1 ∷ 0 ∷ [])
    ∷ (21 ∷ 2 ∷ 9 ∷ 1 ∷ 0 ∷ [])
    ∷ (21 ∷ 2 ∷ [])
    ∷ (21 ∷ 1 ∷ 0 ∷ 1 ∷ 1 ∷ 7 ∷ [])  -- an unknown byte that is left over
    ∷ [])
    ≡ (3 ∷ 9 ∷ []) ∷ (18 ∷ 9 ∷ []) ∷ (19 ∷ 10 ∷ []) ∷ (19 ∷ 10 ∷ []) ∷ (18 ∷ 10 ∷ []) ∷ (3 ∷ 13 ∷ []) ∷ (19 ∷ 13 ∷ []) ∷ (19 ∷ 13 ∷ [])
    ∷ (18 ∷ 10 ∷ []) ∷ (3 ∷ 10 ∷ []) ∷ (18 ∷ 10 ∷ []) ∷ (18 ∷ 10 ∷ []) ∷ (18 ∷ 10 ∷ []) ∷ (19 ∷ 14 ∷ []) ∷ []
unfolding lists decks readers reading_expressions layouts faults
here-cases = refl

pub everywhere-cases : map (condition 1)
    ((21 ∷ 2 ∷ 0 ∷ 1 ∷ 0 ∷ []) ∷ (21 ∷ 2 ∷ 9 ∷ 1 ∷ 0 ∷ []) ∷ (21 ∷ 2 ∷ []) ∷ (2 ∷ 9 ∷ []) ∷ [])
    ≡ (2 ∷ 1 ∷ 1 ∷ 3 ∷ 15 ∷ []) ∷ (3 ∷ 11 ∷ []) ∷ (19 ∷ 11 ∷ []) ∷ (18 ∷ 9 ∷ []) ∷ []
unfolding lists decks readers reading_expressions layouts faults
everywhere-cases = refl

-- document 02, Req 03: a deck with a default action whose count stands at 7; three channels, two rules, two parts
abbrev pub old_deck : List ℕ
old_deck =
    (3 ∷ 97 ∷ 98 ∷ 99 ∷ 2 ∷ [])
    ++ (1 ∷ 0 ∷ 1 ∷ 1 ∷ 2 ∷ 1 ∷ 0 ∷ 1 ∷ 1 ∷ 17 ∷ 1 ∷ 2 ∷ 2 ∷ 1 ∷ 0 ∷ [])
    ++ (1 ∷ 1 ∷ 0 ∷ 0 ∷ 1 ∷ 17 ∷ 1 ∷ 2 ∷ 2 ∷ 1 ∷ 1 ∷ [])
    ++ (2 ∷ [])
    ++ replicate 12 0
    ++ (2 ∷ 0 ∷ 1 ∷ 1 ∷ 17 ∷ [])
    ++ replicate 12 0
    ++ 1 ∷ 1 ∷ 1 ∷ 17 ∷ []

-- the deck with byte n made b
abbrev pub with_byte : ℕ → ℕ → List ℕ
with_byte n b = take n old_deck ++ b ∷ drop (suc n) old_deck

-- how it is read as a new deck, and as an old one
abbrev both : List ℕ → List (List ℕ)
both bytes = shown (read New bytes) ∷ shown (read Old bytes) ∷ []

pub form-cases : map both
    (old_deck
    ∷ with_byte 7 5
    ∷ with_byte 10 7
    ∷ with_byte 10 2
    ∷ with_byte 8 0
    ∷ take 7 old_deck
    ∷ take 8 old_deck
    ∷ (old_deck ++ 0 ∷ [])
    ∷ [])
    ≡ ((20 ∷ 7 ∷ []) ∷ (3 ∷ 2 ∷ 2 ∷ 4 ∷ 31 ∷ []) ∷ [])
    ∷ ((2 ∷ 7 ∷ []) ∷ (2 ∷ 7 ∷ []) ∷ [])
    ∷ ((20 ∷ 7 ∷ []) ∷ (3 ∷ 10 ∷ []) ∷ [])
    ∷ ((20 ∷ 7 ∷ []) ∷ (18 ∷ 10 ∷ []) ∷ [])
    ∷ ((20 ∷ 7 ∷ []) ∷ (3 ∷ 2 ∷ 2 ∷ 4 ∷ 31 ∷ []) ∷ [])
    ∷ ((1 ∷ 7 ∷ []) ∷ (1 ∷ 7 ∷ []) ∷ [])
    ∷ ((20 ∷ 7 ∷ []) ∷ (1 ∷ 8 ∷ []) ∷ [])
    ∷ ((20 ∷ 7 ∷ []) ∷ (5 ∷ 65 ∷ []) ∷ [])
    ∷ []
unfolding lists decks readers reading_expressions layouts faults
form-cases = refl
