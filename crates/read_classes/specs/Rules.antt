-- What stands before and after the first mark of a line, and the line's class, by the mark's sort.
use Rattle.std.specs.Prelude.{Bool, true, false, ◌&&◌, ◌||◌, List, [], ◌∷◌, ℕ, suc, length, get_or, take, drop, eqb, ltb}
use Rattle.std.proofs.Math.Option.{none}
use Rattle.meaning.specs.Basics.{if_else}
use Rattle.meaning.specs.Lines.{same}
use Rattle.grammar.specs.Shapes.{initial, element}
use Rattle.grammar.specs.Classes.{Class, variable-line, other-declaration, leaf, input-line, member-lines, choice-lines, option-lines, while-line, test-line, guard-line}
use Rattle.read_tokens.specs.Sorts as sorts
use Rattle.read_shapes.specs.Phrases.{phrase_in}
use Rattle.read_classes.specs.declared.parts.Part.{Part}
use Rattle.read_classes.specs.declared.parts.Part.TheVariants.{Nothing, Phrase, Element, Size, Named, Numbered, Event}
use Rattle.read_classes.specs.ClassNumbers.{number_of, class_number}
use Rattle.read_classes.specs.Parts.{mark_at}

-- what is said of a first mark's sort, the sorts before it and those after it
abbrev pub at_mark : {A : Type 0} → (ℕ → List ℕ → List ℕ → A) → List ℕ → A
at_mark f ss = f (get_or ss (mark_at ss) 0) (take (mark_at ss) ss) (drop (suc (mark_at ss)) ss)

-- whether there is no token
abbrev pub is_empty : List ℕ → Bool
is_empty [] = true
is_empty (s ∷ ss) = false

-- `[ number ]`, or nothing
abbrev pub size_in : List ℕ → Bool
size_in ss = is_empty ss || same ss (sorts.square_open ∷ sorts.number ∷ sorts.square_close ∷ [])

-- a name and a colon
abbrev pub named_in : List ℕ → Bool
named_in ss = same ss (sorts.name ∷ sorts.colon ∷ [])

-- a number, a name and a colon
abbrev pub numbered_in : List ℕ → Bool
numbered_in ss = same ss (sorts.number ∷ sorts.name ∷ sorts.colon ∷ [])

-- nothing before and after
abbrev pub alone_in : List ℕ → List ℕ → Bool
alone_in bs cs = is_empty bs && is_empty cs

-- an element before and after
abbrev pub exchange_in : List ℕ → List ℕ → Bool
exchange_in bs cs = phrase_in element bs && phrase_in element cs

-- SKIP by itself, or an input
abbrev pub event_by_mark : ℕ → List ℕ → List ℕ → Bool
event_by_mark s bs cs = if_else (eqb s sorts.skip) (alone_in bs cs) (if_else (eqb s sorts.asks) (exchange_in bs cs) false)

-- what a guard waits for
abbrev pub event_in : List ℕ → Bool
event_in ss = at_mark event_by_mark ss

-- Parts -----------------------------------------------------------------------------------------------------------------------------

-- whether tokens of some sorts are what is asked for
unfoldable pub part_is : Part → List ℕ → Bool
part_is Nothing ss = is_empty ss
part_is Phrase ss = phrase_in initial ss
part_is Element ss = phrase_in element ss
part_is Size ss = size_in ss
part_is Named ss = named_in ss
part_is Numbered ss = numbered_in ss
part_is Event ss = event_in ss

-- Rules -------------------------------------------------------------------------------------------------------------------------------

-- what stands before the first mark, what stands after it, and the number of the line's class
abbrev pub Rule : Type 0
Rule = Part × Part × ℕ

abbrev pub rule : Part → Part → Class → Rule
rule b c k = (b, c, number_of k)

-- a sort that parts no line
abbrev pub no_rule : Rule
no_rule = (Nothing, Nothing, class_number none)

-- the rules by sort: no mark; the sorts of no marks; SKIP, STOP, SEQ, PAR, IF, ALT, WHILE; `:=`, `?`, `!`, `&`; INT, CHAN, HOSTIN, HOSTOUT
unfoldable pub rules : List Rule
rules =
    rule Phrase Nothing test-line
    ∷ no_rule
    ∷ no_rule
    ∷ no_rule
    ∷ no_rule
    ∷ no_rule
    ∷ no_rule
    ∷ no_rule
    ∷ no_rule
    ∷ no_rule
    ∷ no_rule
    ∷ no_rule
    ∷ no_rule
    ∷ rule Nothing Nothing leaf
    ∷ rule Nothing Nothing leaf
    ∷ rule Nothing Nothing member-lines
    ∷ rule Nothing Nothing member-lines
    ∷ rule Nothing Nothing choice-lines
    ∷ rule Nothing Nothing option-lines
    ∷ rule Nothing Phrase while-line
    ∷ rule Element Phrase leaf
    ∷ rule Element Element input-line
    ∷ rule Element Phrase leaf
    ∷ rule Phrase Event guard-line
    ∷ rule Size Named variable-line
    ∷ rule Size Named other-declaration
    ∷ rule Nothing Named other-declaration
    ∷ rule Nothing Numbered other-declaration
    ∷ []

-- the rule of a table for a sort
abbrev pub rule_at : List Rule → ℕ → Rule
rule_at table s = if_else (ltb s (length table)) (get_or table s no_rule) no_rule

-- the class by a rule
abbrev pub class_by_rule : Rule → List ℕ → List ℕ → ℕ
class_by_rule r bs cs = if_else (part_is r.0 bs && part_is r.1 cs) r.2 (class_number none)

-- the class by the sort of the first mark
unfoldable pub class_by_mark : ℕ → List ℕ → List ℕ → ℕ
class_by_mark s bs cs = class_by_rule (rule_at rules s) bs cs
