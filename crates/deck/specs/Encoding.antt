-- Document 01, "The deck": a deck's bytes, and which decks have them. Assumes nothing.
use Rattle.std.specs.Prelude.{ℕ, suc, Bool, true, false, ◌&&◌, leb, ltb, eqb, length}
use mathlib.Core.List.{List, [], ◌∷◌, ◌++◌, flat_map}
use Rattle.lists.specs.Lists.{all_of, distinct}
use Rattle.expression.specs.Syntax.{Truth}
use Rattle.expression.specs.Reading.{Scope}
use Rattle.expression.specs.Encoding.{encode_value, encode_num, encode_truth, fits, good_num, good_truth}
use Rattle.deck.specs.declared.Form.{Form}
use Rattle.deck.specs.Limits.{limits}
use Rattle.deck.specs.Deck.{Assignment, Action, Rule, Part, Deck, R, M, N, targets}
use Rattle.deck.specs.Layout.{own_only, task_scope, allows}

-- ---- the bytes

-- a length byte, "then exactly that many bytes"
unfoldable pub encode_expression : List ℕ → List ℕ
encode_expression bytes = length bytes ∷ bytes

unfoldable pub encode_assignment : Assignment → List ℕ
encode_assignment s = s.target ∷ encode_expression (encode_num s.value)

unfoldable pub encode_action : Action → List ℕ
encode_action a = length a ∷ flat_map encode_assignment a

abbrev pub kind_byte : Bool → ℕ
kind_byte false = 0
kind_byte true = 1

unfoldable pub encode_rule : Rule → List ℕ
encode_rule r =
    (length r.events ∷ r.events)
    ++ encode_action r.default
    ++ (kind_byte r.everywhere ∷ encode_expression (encode_truth r.condition))
    ++ encode_action r.action

unfoldable pub encode_part : Part → List ℕ
encode_part p =
    flat_map encode_value p.opening ++ (length p.carried ∷ p.carried) ++ encode_expression (encode_truth p.limit)

-- the three sections, each after its count
unfoldable pub encode_channels : Deck → List ℕ
encode_channels d = R d ∷ d.labels

unfoldable pub encode_rules : Deck → List ℕ
encode_rules d = M d ∷ flat_map encode_rule d.rules

unfoldable pub encode_parts : Deck → List ℕ
encode_parts d = N d ∷ flat_map encode_part d.parts

unfoldable pub encode : Deck → List ℕ
encode d = encode_channels d ++ encode_rules d ++ encode_parts d

-- ---- well-formed decks

unfoldable pub in_range : ℕ → ℕ → ℕ → Bool
in_range lo hi n = leb lo n && leb n hi

-- a byte that a label may be
abbrev pub is_label : ℕ → Bool
is_label = in_range limits.lowest limits.highest

-- strictly rising, from lo to below hi
unfoldable pub is_rising : ℕ → ℕ → List ℕ → Bool
is_rising lo hi [] = true
is_rising lo hi (c ∷ cs) = leb lo c && ltb c hi && is_rising (suc c) hi cs

-- an expression has 1 to 64 bytes
unfoldable pub fitting_length : List ℕ → Bool
fitting_length bytes = in_range 1 limits.expression (length bytes)

unfoldable pub good_assignment : Scope → Assignment → Bool
good_assignment sc s = ltb s.target sc.owns && good_num sc s.value && fitting_length (encode_num s.value)

unfoldable pub good_action : Scope → Action → Bool
good_action sc a = leb (length a) limits.assignments && all_of (good_assignment sc) a && distinct (targets a)

unfoldable pub good_condition : Scope → Truth → Bool
good_condition sc t = good_truth sc t && fitting_length (encode_truth t)

unfoldable pub good_rule : ℕ → Rule → Bool
good_rule R r =
    in_range 1 limits.events (length r.events)
    && is_rising 0 R r.events
    && good_action (own_only R) r.default
    && good_condition (task_scope R r.everywhere) r.condition
    && good_action (task_scope R r.everywhere) r.action

unfoldable pub good_part : ℕ → ℕ → Part → Bool
good_part R M p =
    eqb (length p.opening) R
    && all_of fits p.opening
    && leb (length p.carried) M
    && is_rising 0 M p.carried
    && good_condition (own_only R) p.limit

unfoldable pub well_formed : Deck → Bool
well_formed d =
    in_range 1 limits.channels (R d)
    && all_of is_label d.labels
    && leb (M d) limits.rules
    && all_of (good_rule (R d)) d.rules
    && in_range 1 limits.parts (N d)
    && all_of (good_part (R d) (M d)) d.parts

-- what a form asks besides: a new deck has no default action
unfoldable pub suits_rule : Form → Rule → Bool
suits_rule f r = allows f (length r.default)

unfoldable pub suits : Form → Deck → Bool
suits f d = all_of (suits_rule f) d.rules

-- to open all definitions of this file, on an `unfolding` line
unfoldable pub encodings : Unit {0}
unfolding encode_expression encode_assignment encode_action encode_rule encode_part encode_channels encode_rules encode_parts encode in_range
    is_rising fitting_length good_assignment good_action good_condition good_rule good_part well_formed suits_rule suits
encodings = tt
