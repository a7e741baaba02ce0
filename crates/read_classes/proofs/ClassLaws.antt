-- The class by the sorts of a line's tokens is that of the line that they spell.
use mathlib.Core.Path.{◌≡◌, refl, sym, ap, ap₂, ◌∙◌}
use mathlib.Core.Bool.{Bool, true, false, ◌&&◌}
use mathlib.Core.List.{List, [], ◌∷◌, map}
use mathlib.Core.Option.{Option, none, some}
use Prim.Native.Nat.{ℕ, zero, suc}
use lib.ListN.{get_or, take, drop}
use lib.Dec.{eqb}
use Rattle.meaning.specs.Basics.{if_else, is_some}
use Rattle.meaning.specs.Lines.{same}
use Rattle.grammar.specs.Grammar.{both, either, Mark, a-skip, a-stop, a-seq, a-par, an-if, an-alt, a-while, becomes, asks, tells, ampersand, an_int, a-chan, a-hostin, a-hostout, colon, unused, Token, name, number, minus, not-word, given, arith, joins, round-open, round-close, square-open, square-close, mark}
use Rattle.grammar.specs.Shapes.{initial}
use Rattle.grammar.specs.Lines.{Cut, uncut, parted, cut_at_mark, Look, open-look, shut-look, colon-look, other-look, number-look, name-look, mark_look, look_at, size_look, size_read, end_look, name_of, number_look}
use Rattle.grammar.specs.Classes.{Class, leaf, input-line, variable-line, other-declaration, member-lines, choice-lines, option-lines, while-line, test-line, guard-line, class_if, alone_class, while_class, host_in_class, host_out_class, guard_cut_class, cut_class, class_spelt}
use Rattle.read_tokens.specs.Sorts as sorts
use Rattle.read_tokens.specs.Held.{token_sort}
use Rattle.read_shapes.specs.Phrases.{phrase_in}
use Rattle.read_shapes.proofs.PhraseLaws.{phrase-told, element-read}
use Rattle.read_classes.specs.ClassNumbers.{number_of, class_number}
use Rattle.read_classes.specs.Parts.{sort_of, Parting, part_at_mark, chunks_parted, mark_at}
use Rattle.read_classes.specs.Rules.{at_mark, is_empty, size_in, named_in, numbered_in, event_by_mark, part_is, rules, class_by_mark}
use Rattle.read_classes.specs.LineClasses.{class_by_sorts, ClassTold}
pub use Rattle.read_classes.proofs.PartLaws.{parted-at, parted-as-tokens, mark-within}

-- Parts -------------------------------------------------------------------------------------------------------------------------

-- the sorts of tokens
sorts-some : (ts : List Token) → map sort_of (map some ts) ≡ map token_sort ts
sorts-some [] = refl
sorts-some (t ∷ ts) = ap (λ (ss : List ℕ). token_sort t ∷ ss) (sorts-some ts)

-- and of a part of them
take-sorts : (n : ℕ) (os : List (Option Token)) → take n (map sort_of os) ≡ map sort_of (take n os)
take-sorts zero os = refl
take-sorts (suc n) [] = refl
take-sorts (suc n) (o ∷ os) = ap (λ (ss : List ℕ). sort_of o ∷ ss) (take-sorts n os)

drop-sorts : (n : ℕ) (os : List (Option Token)) → drop n (map sort_of os) ≡ map sort_of (drop n os)
drop-sorts zero os = refl
drop-sorts (suc n) [] = refl
drop-sorts (suc n) (o ∷ os) = drop-sorts n os

module _ {A : Type 0} (f : ℕ → List ℕ → List ℕ → A) where
  -- what is said of tokens as the grammar parts them
  at_cut : Cut → A
  at_cut (uncut ts) = f sorts.no_token (map token_sort ts) []
  at_cut (parted ts m us) = f (token_sort (mark m)) (map token_sort ts) (map token_sort us)

  -- and of a parting
  at_parting : Parting → A
  at_parting p = f p.sort (map sort_of p.before) (map sort_of p.after)

  cut-parted : (c : Cut) → at_parting (chunks_parted c) ≡ at_cut c
  unfolding at_cut at_parting
  cut-parted (uncut ts) = ap (λ (ss : List ℕ). f sorts.no_token ss []) (sorts-some ts)
  cut-parted (parted ts m us) = ap₂ (λ (ss rs : List ℕ). f (token_sort (mark m)) ss rs) (sorts-some ts) (sorts-some us)

  mark-parted : (os : List (Option Token)) → at_mark f (map sort_of os) ≡ at_parting (part_at_mark os)
  unfolding at_parting
  mark-parted os =
      let n = mark_at (map sort_of os) in
      ap₂ (λ (ss rs : List ℕ). f (get_or (map sort_of os) n 0) ss rs) (take-sorts n os) (drop-sorts (suc n) os) ∙ sym (ap at_parting (parted-at os))

  -- the first mark is where the grammar parts
  at_cut_lem : (ts : List Token) → at_mark f (map token_sort ts) ≡ at_cut (cut_at_mark ts)
  at_cut_lem ts = ap (at_mark f) (sym (sorts-some ts)) ∙ mark-parted (map some ts) ∙ ap at_parting (parted-as-tokens ts) ∙ cut-parted (cut_at_mark ts)

-- Declarations ------------------------------------------------------------------------------------------------------------------

-- whether a token looks like `[`
is_open : Look → Bool
is_open open-look = true
is_open shut-look = false
is_open colon-look = false
is_open other-look = false
is_open (number-look z) = false
is_open (name-look n) = false

-- whether a token looks like `]`
is_shut : Look → Bool
is_shut open-look = false
is_shut shut-look = true
is_shut colon-look = false
is_shut other-look = false
is_shut (number-look z) = false
is_shut (name-look n) = false

-- whether a token looks like a colon
is_colon : Look → Bool
is_colon open-look = false
is_colon shut-look = false
is_colon colon-look = true
is_colon other-look = false
is_colon (number-look z) = false
is_colon (name-look n) = false

-- whether a token looks like a number
is_number : Look → Bool
is_number open-look = false
is_number shut-look = false
is_number colon-look = false
is_number other-look = false
is_number (number-look z) = true
is_number (name-look n) = false

-- whether a token looks like a name
is_name : Look → Bool
is_name open-look = false
is_name shut-look = false
is_name colon-look = false
is_name other-look = false
is_name (number-look z) = false
is_name (name-look n) = true

-- a token's sort tells its look
abbrev Looks : Token → Type 0
Looks t = (eqb (token_sort t) sorts.square_open ≡ is_open (look_at t)) × (eqb (token_sort t) sorts.number ≡ is_number (look_at t)) × (eqb (token_sort t) sorts.square_close ≡ is_shut (look_at t))
    × (eqb (token_sort t) sorts.name ≡ is_name (look_at t)) × (eqb (token_sort t) sorts.colon ≡ is_colon (look_at t))

-- a mark
mark-looks : (m : Mark) → Looks (mark m)
unfolding look_at mark_look is_open is_number is_shut is_name is_colon
mark-looks a-skip = (refl, refl, refl, refl, refl)
mark-looks a-stop = (refl, refl, refl, refl, refl)
mark-looks a-seq = (refl, refl, refl, refl, refl)
mark-looks a-par = (refl, refl, refl, refl, refl)
mark-looks an-if = (refl, refl, refl, refl, refl)
mark-looks an-alt = (refl, refl, refl, refl, refl)
mark-looks a-while = (refl, refl, refl, refl, refl)
mark-looks becomes = (refl, refl, refl, refl, refl)
mark-looks asks = (refl, refl, refl, refl, refl)
mark-looks tells = (refl, refl, refl, refl, refl)
mark-looks ampersand = (refl, refl, refl, refl, refl)
mark-looks an_int = (refl, refl, refl, refl, refl)
mark-looks a-chan = (refl, refl, refl, refl, refl)
mark-looks a-hostin = (refl, refl, refl, refl, refl)
mark-looks a-hostout = (refl, refl, refl, refl, refl)
mark-looks colon = (refl, refl, refl, refl, refl)
mark-looks (unused k) = (refl, refl, refl, refl, refl)

-- a token
looks : (t : Token) → Looks t
unfolding look_at is_open is_number is_shut is_name is_colon
looks (name n) = (refl, refl, refl, refl, refl)
looks (number z) = (refl, refl, refl, refl, refl)
looks minus = (refl, refl, refl, refl, refl)
looks not-word = (refl, refl, refl, refl, refl)
looks given = (refl, refl, refl, refl, refl)
looks (arith k) = (refl, refl, refl, refl, refl)
looks (joins both) = (refl, refl, refl, refl, refl)
looks (joins either) = (refl, refl, refl, refl, refl)
looks round-open = (refl, refl, refl, refl, refl)
looks round-close = (refl, refl, refl, refl, refl)
looks square-open = (refl, refl, refl, refl, refl)
looks square-close = (refl, refl, refl, refl, refl)
looks (mark m) = mark-looks m

-- a test after which nothing holds
fails : (b : Bool) → if_else b false false ≡ false
fails true = refl
fails false = refl

-- one test more
then-fails : (b : Bool) {c : Bool} → c ≡ false → if_else b c false ≡ false
then-fails true e = e
then-fails false e = refl

-- `[`, a number, `]`
size-looks : (x y w : Look) → if_else (is_open x) (if_else (is_number y) (if_else (is_shut w) true false) false) false ≡ is_some (size_look x y w)
unfolding is_open is_number is_shut size_look
size-looks open-look open-look w = refl
size-looks open-look shut-look w = refl
size-looks open-look colon-look w = refl
size-looks open-look other-look w = refl
size-looks open-look (number-look z2) open-look = refl
size-looks open-look (number-look z2) shut-look = refl
size-looks open-look (number-look z2) colon-look = refl
size-looks open-look (number-look z2) other-look = refl
size-looks open-look (number-look z2) (number-look z3) = refl
size-looks open-look (number-look z2) (name-look n3) = refl
size-looks open-look (name-look n2) w = refl
size-looks shut-look y w = refl
size-looks colon-look y w = refl
size-looks other-look y w = refl
size-looks (number-look z1) y w = refl
size-looks (name-look n1) y w = refl

-- a size by its sorts
size-tells : (ts : List Token) → size_in (map token_sort ts) ≡ is_some (size_read ts)
unfolding same size_read
size-tells [] = refl
size-tells (a ∷ []) = fails (eqb (token_sort a) sorts.square_open)
size-tells (a ∷ b ∷ []) = then-fails (eqb (token_sort a) sorts.square_open) (fails (eqb (token_sort b) sorts.number))
size-tells (a ∷ b ∷ c ∷ []) =
    ap₂ (λ (x y : Bool). if_else x (if_else y (if_else (eqb (token_sort c) sorts.square_close) true false) false) false) (looks a).0 (looks b).1
    ∙ ap (λ (z : Bool). if_else (is_open (look_at a)) (if_else (is_number (look_at b)) (if_else z true false) false) false) (looks c).2
    ∙ size-looks (look_at a) (look_at b) (look_at c)
size-tells (a ∷ b ∷ c ∷ d ∷ ts) = then-fails (eqb (token_sort a) sorts.square_open) (then-fails (eqb (token_sort b) sorts.number) (fails (eqb (token_sort c) sorts.square_close)))

-- a name and a colon
end-looks : (x y : Look) → if_else (is_name x) (if_else (is_colon y) true false) false ≡ is_some (end_look x y)
unfolding is_name is_colon end_look
end-looks open-look y = refl
end-looks shut-look y = refl
end-looks colon-look y = refl
end-looks other-look y = refl
end-looks (number-look z1) y = refl
end-looks (name-look n1) open-look = refl
end-looks (name-look n1) shut-look = refl
end-looks (name-look n1) colon-look = refl
end-looks (name-look n1) other-look = refl
end-looks (name-look n1) (number-look z2) = refl
end-looks (name-look n1) (name-look n2) = refl

-- by their sorts
name-tells : (ts : List Token) → named_in (map token_sort ts) ≡ is_some (name_of ts)
unfolding same name_of
name-tells [] = refl
name-tells (a ∷ []) = fails (eqb (token_sort a) sorts.name)
name-tells (a ∷ b ∷ []) =
    ap₂ (λ (x y : Bool). if_else x (if_else y true false) false) (looks a).3 (looks b).4 ∙ end-looks (look_at a) (look_at b)
name-tells (a ∷ b ∷ c ∷ ts) = then-fails (eqb (token_sort a) sorts.name) (fails (eqb (token_sort b) sorts.colon))

-- a number
number-look-tells : (x : Look) → is_number x ≡ is_some (number_look x)
unfolding is_number number_look
number-look-tells open-look = refl
number-look-tells shut-look = refl
number-look-tells colon-look = refl
number-look-tells other-look = refl
number-look-tells (number-look z) = refl
number-look-tells (name-look n) = refl

-- both of two tests
both-tests : (b c : Bool) → if_else b c false ≡ b && c
both-tests true c = refl
both-tests false c = refl

-- a number, a name and a colon
numbered-tells : (t : Token) (ts : List Token) → numbered_in (map token_sort (t ∷ ts)) ≡ is_some (number_look (look_at t)) && is_some (name_of ts)
unfolding same
numbered-tells t ts =
    ap₂ (λ (b c : Bool). if_else b c false) ((looks t).1 ∙ number-look-tells (look_at t)) (name-tells ts) ∙ both-tests (is_some (number_look (look_at t))) (is_some (name_of ts))

-- Classes -----------------------------------------------------------------------------------------------------------------------

-- a class, if a test holds
number-if : (b : Bool) (k : Class) → if_else b (number_of k) 0 ≡ class_number (class_if b k)
number-if true k = refl
number-if false k = refl

-- if both parts are what they should be
both-tell : {b c b' c' : Bool} (k : Class) → b ≡ b' → c ≡ c' → if_else (b && c) (number_of k) 0 ≡ class_number (class_if (b' && c') k)
both-tell {b' = b'} {c' = c'} k e f = ap₂ (λ (x y : Bool). if_else (x && y) (number_of k) 0) e f ∙ number-if (b' && c') k

-- a word by itself
alone-tells : (k : Class) (ts us : List Token) → if_else (is_empty (map token_sort ts) && is_empty (map token_sort us)) (number_of k) 0 ≡ class_number (alone_class k ts us)
alone-tells k [] [] = refl
alone-tells k [] (u ∷ us) = refl
alone-tells k (t ∷ ts) us = refl

-- WHILE
while-tells : (ts us : List Token) → if_else (is_empty (map token_sort ts) && phrase_in initial (map token_sort us)) (number_of while-line) 0 ≡ class_number (while_class ts us)
while-tells [] us = both-tell {b = true} while-line refl (phrase-told us)
while-tells (t ∷ ts) us = refl

-- HOSTIN
host-in-tells : (ts us : List Token) → if_else (is_empty (map token_sort ts) && named_in (map token_sort us)) (number_of other-declaration) 0 ≡ class_number (host_in_class ts us)
host-in-tells [] us = both-tell {b = true} other-declaration refl (name-tells us)
host-in-tells (t ∷ ts) us = refl

-- HOSTOUT
host-out-tells : (ts us : List Token) → if_else (is_empty (map token_sort ts) && numbered_in (map token_sort us)) (number_of other-declaration) 0 ≡ class_number (host_out_class ts us)
unfolding same
host-out-tells [] [] = refl
host-out-tells [] (u ∷ us) = both-tell {b = true} other-declaration refl (numbered-tells u us)
host-out-tells (t ∷ ts) us = refl

-- what a guard waits for
event-tells : (c : Cut) → if_else (at_cut event_by_mark c) (number_of guard-line) 0 ≡ class_number (guard_cut_class c)
unfolding guard_cut_class at_cut
event-tells (uncut ts) = refl
event-tells (parted ts a-skip us) = alone-tells guard-line ts us
event-tells (parted ts a-stop us) = refl
event-tells (parted ts a-seq us) = refl
event-tells (parted ts a-par us) = refl
event-tells (parted ts an-if us) = refl
event-tells (parted ts an-alt us) = refl
event-tells (parted ts a-while us) = refl
event-tells (parted ts becomes us) = refl
event-tells (parted ts asks us) = both-tell guard-line (element-read ts) (element-read us)
event-tells (parted ts tells us) = refl
event-tells (parted ts ampersand us) = refl
event-tells (parted ts an_int us) = refl
event-tells (parted ts a-chan us) = refl
event-tells (parted ts a-hostin us) = refl
event-tells (parted ts a-hostout us) = refl
event-tells (parted ts colon us) = refl
event-tells (parted ts (unused k) us) = refl

-- a guard
guard_tells : (b b' e : Bool) (g : Option Class) → b ≡ b' → if_else e (number_of guard-line) 0 ≡ class_number g → if_else (b && e) (number_of guard-line) 0 ≡ class_number (if_else b' g none)
guard_tells b true e g q h = ap (λ (x : Bool). if_else (x && e) (number_of guard-line) 0) q ∙ h
guard_tells b false e g q h = ap (λ (x : Bool). if_else (x && e) (number_of guard-line) 0) q

-- an expression
test-tells : (b b' : Bool) → b ≡ b' → if_else (b && true) (number_of test-line) 0 ≡ class_number (class_if b' test-line)
test-tells b true q = ap (λ (x : Bool). if_else (x && true) (number_of test-line) 0) q
test-tells b false q = ap (λ (x : Bool). if_else (x && true) (number_of test-line) 0) q

-- a sort with no class
no-rule : (b : Bool) → ◌≡◌ {A = ℕ} (if_else b 0 0) 0
no-rule true = refl
no-rule false = refl

-- the class by the parts
rules-tell : (c : Cut) → at_cut class_by_mark c ≡ class_number (cut_class c)
unfolding class_by_mark rules part_is cut_class at_cut
rules-tell (uncut ts) = test-tells _ _ (phrase-told ts)
rules-tell (parted ts a-skip us) = alone-tells leaf ts us
rules-tell (parted ts a-stop us) = alone-tells leaf ts us
rules-tell (parted ts a-seq us) = alone-tells member-lines ts us
rules-tell (parted ts a-par us) = alone-tells member-lines ts us
rules-tell (parted ts an-if us) = alone-tells choice-lines ts us
rules-tell (parted ts an-alt us) = alone-tells option-lines ts us
rules-tell (parted ts a-while us) = while-tells ts us
rules-tell (parted ts becomes us) = both-tell leaf (element-read ts) (phrase-told us)
rules-tell (parted ts asks us) = both-tell input-line (element-read ts) (element-read us)
rules-tell (parted ts tells us) = both-tell leaf (element-read ts) (phrase-told us)
rules-tell (parted ts ampersand us) = guard_tells _ _ _ _ (phrase-told ts) (ap (λ (b : Bool). if_else b (number_of guard-line) 0) (at_cut_lem event_by_mark us) ∙ event-tells (cut_at_mark us))
rules-tell (parted ts an_int us) = both-tell variable-line (size-tells ts) (name-tells us)
rules-tell (parted ts a-chan us) = both-tell other-declaration (size-tells ts) (name-tells us)
rules-tell (parted ts a-hostin us) = host-in-tells ts us
rules-tell (parted ts a-hostout us) = host-out-tells ts us
rules-tell (parted ts colon us) = no-rule (is_empty (map token_sort ts) && is_empty (map token_sort us))
rules-tell (parted ts (unused k) us) = no-rule (is_empty (map token_sort ts) && is_empty (map token_sort us))

-- the class by the sorts is that of the line that the tokens spell
pub class-told : ClassTold
unfolding class_by_sorts class_spelt
class-told ts = at_cut_lem class_by_mark ts ∙ rules-tell (cut_at_mark ts)
