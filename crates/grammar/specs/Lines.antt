-- A line after its indentation: the grammar as a relation, and the reader, which parts the tokens at the first word or symbol that stands in no expression.
use Rattle.std.specs.Prelude.{List, [], ◌∷◌, ◌++◌, ℕ, ℤ, pos}
use Rattle.std.proofs.Math.Option.{Option, none, some}
use Rattle.grammar.specs.Grammar.{Mark, a-skip, a-stop, a-seq, a-par, an-if, an-alt, a-while, becomes, asks, tells, ampersand, an_int, a-chan, a-hostin, a-hostout, colon, unused, Token, name, number, minus, not-word, given, arith, joins, round-open, round-close, square-open, square-close, mark, Syn, Element, Phrase}
use Rattle.grammar.specs.Machine.{phrase, element_of}
use Rattle.grammar.specs.Outline.{Declaration, variable, channel, source, sink, OutlineLine, declare, skip, stop, assign, input, output, seq, par, ifs, alts, while, test, guarded, allowed}

-- a word that is a line by itself
pub data Alone : Mark → OutlineLine → Type 0 where
  skips : Alone a-skip skip
  stops : Alone a-stop stop
  seqs : Alone a-seq seq
  pars : Alone a-par par
  chooses : Alone an-if ifs
  selects : Alone an-alt alts

-- a declaration of a size, by its word
pub data Sized : Mark → (ℤ → List ℕ → Declaration) → Type 0 where
  ints : Sized an_int variable
  chans : Sized a-chan channel

pub data Header : List Token → Declaration → Type 0 where
  scalar : {m : Mark} {f : ℤ → List ℕ → Declaration} {n : List ℕ} → Sized m f → Header (mark m ∷ name n ∷ mark colon ∷ []) (f (pos 1) n)
  array : {m : Mark} {f : ℤ → List ℕ → Declaration} {z : ℤ} {n : List ℕ} → Sized m f
      → Header (square-open ∷ number z ∷ square-close ∷ mark m ∷ name n ∷ mark colon ∷ []) (f z n)
  host-in : {n : List ℕ} → Header (mark a-hostin ∷ name n ∷ mark colon ∷ []) (source n)
  host-out : {z : ℤ} {n : List ℕ} → Header (mark a-hostout ∷ number z ∷ name n ∷ mark colon ∷ []) (sink z n)

pub data Spells : List Token → OutlineLine → Type 0 where
  declares : {ts : List Token} {d : Declaration} → Header ts d → Spells ts (declare d)
  word : {m : Mark} {x : OutlineLine} → Alone m x → Spells (mark m ∷ []) x
  repeats : {ts : List Token} {e : Syn} → Phrase ts e → Spells (mark a-while ∷ ts) (while e)
  assigns : {ts us : List Token} {a e : Syn} → Element ts a → Phrase us e → Spells (ts ++ (mark becomes ∷ us)) (assign a e)
  inputs : {ts us : List Token} {c a : Syn} → Element ts c → Element us a → Spells (ts ++ (mark asks ∷ us)) (input c a)
  outputs : {ts us : List Token} {c e : Syn} → Element ts c → Phrase us e → Spells (ts ++ (mark tells ∷ us)) (output c e)
  tests : {ts : List Token} {e : Syn} → Phrase ts e → Spells ts (test e)
  guards : {ts us vs : List Token} {e c a : Syn} → Phrase ts e → Element us c → Element vs a
      → Spells (ts ++ (mark ampersand ∷ (us ++ (mark asks ∷ vs)))) (guarded e c a)
  allows : {ts : List Token} {e : Syn} → Phrase ts e → Spells (ts ++ (mark ampersand ∷ mark a-skip ∷ [])) (allowed e)

unfoldable pub token_mark : Token → Option Mark
token_mark (name n) = none
token_mark (number z) = none
token_mark minus = none
token_mark not-word = none
token_mark given = none
token_mark (arith k) = none
token_mark (joins l) = none
token_mark round-open = none
token_mark round-close = none
token_mark square-open = none
token_mark square-close = none
token_mark (mark m) = some m

-- tokens with no mark; or those before the first mark, the mark, and those after it
pub data Cut : Type 0 where
  uncut : List Token → Cut
  parted : List Token → Mark → List Token → Cut

unfoldable pub before : Token → Cut → Cut
before t (uncut ts) = uncut (t ∷ ts)
before t (parted ts m us) = parted (t ∷ ts) m us

unfoldable pub cut_at : Option Mark → Token → List Token → Cut → Cut
cut_at none t ts c = before t c
cut_at (some m) t ts c = parted [] m ts

unfoldable pub cut_at_mark : List Token → Cut
cut_at_mark [] = uncut []
cut_at_mark (t ∷ ts) = cut_at (token_mark t) t ts (cut_at_mark ts)

unfoldable pub single : (Syn → OutlineLine) → Option Syn → Option OutlineLine
single f none = none
single f (some e) = some (f e)

unfoldable pub pair : (Syn → Syn → OutlineLine) → Option Syn → Option Syn → Option OutlineLine
pair f none o = none
pair f (some e) o = single (f e) o

-- a word with nothing before or after it
unfoldable pub word_alone : OutlineLine → List Token → List Token → Option OutlineLine
word_alone x [] [] = some x
word_alone x [] (t ∷ us) = none
word_alone x (t ∷ ts) us = none

unfoldable pub while_line : List Token → List Token → Option OutlineLine
while_line [] us = single while (phrase us)
while_line (t ∷ ts) us = none

-- what a declaration looks at in a token
pub data Look : Type 0 where
  open-look shut-look colon-look other-look : Look
  number-look : ℤ → Look
  name-look : List ℕ → Look

unfoldable pub mark_look : Mark → Look
mark_look a-skip = other-look
mark_look a-stop = other-look
mark_look a-seq = other-look
mark_look a-par = other-look
mark_look an-if = other-look
mark_look an-alt = other-look
mark_look a-while = other-look
mark_look becomes = other-look
mark_look asks = other-look
mark_look tells = other-look
mark_look ampersand = other-look
mark_look an_int = other-look
mark_look a-chan = other-look
mark_look a-hostin = other-look
mark_look a-hostout = other-look
mark_look colon = colon-look
mark_look (unused k) = other-look

unfoldable pub look_at : Token → Look
look_at (name n) = name-look n
look_at (number z) = number-look z
look_at minus = other-look
look_at not-word = other-look
look_at given = other-look
look_at (arith k) = other-look
look_at (joins l) = other-look
look_at round-open = other-look
look_at round-close = other-look
look_at square-open = open-look
look_at square-close = shut-look
look_at (mark m) = mark_look m

unfoldable pub size_look : Look → Look → Look → Option ℤ
size_look open-look open-look w = none
size_look open-look shut-look w = none
size_look open-look colon-look w = none
size_look open-look (number-look z2) open-look = none
size_look open-look (number-look z2) shut-look = some z2
size_look open-look (number-look z2) colon-look = none
size_look open-look (number-look z2) (number-look z3) = none
size_look open-look (number-look z2) (name-look n3) = none
size_look open-look (number-look z2) other-look = none
size_look open-look (name-look n2) w = none
size_look open-look other-look w = none
size_look shut-look y w = none
size_look colon-look y w = none
size_look (number-look z1) y w = none
size_look (name-look n1) y w = none
size_look other-look y w = none

-- `[k]`, or nothing for a size of 1
unfoldable pub size_read : List Token → Option ℤ
size_read [] = some (pos 1)
size_read (a ∷ []) = none
size_read (a ∷ b ∷ []) = none
size_read (a ∷ b ∷ c ∷ []) = size_look (look_at a) (look_at b) (look_at c)
size_read (a ∷ b ∷ c ∷ d ∷ ts) = none

unfoldable pub end_look : Look → Look → Option (List ℕ)
end_look open-look y = none
end_look shut-look y = none
end_look colon-look y = none
end_look (number-look z1) y = none
end_look (name-look n1) open-look = none
end_look (name-look n1) shut-look = none
end_look (name-look n1) colon-look = some n1
end_look (name-look n1) (number-look z2) = none
end_look (name-look n1) (name-look n2) = none
end_look (name-look n1) other-look = none
end_look other-look y = none

-- a name and a colon
unfoldable pub name_of : List Token → Option (List ℕ)
name_of [] = none
name_of (a ∷ []) = none
name_of (a ∷ b ∷ []) = end_look (look_at a) (look_at b)
name_of (a ∷ b ∷ c ∷ ts) = none

unfoldable pub number_look : Look → Option ℤ
number_look open-look = none
number_look shut-look = none
number_look colon-look = none
number_look (number-look z1) = some z1
number_look (name-look n1) = none
number_look other-look = none

unfoldable pub sized_declaration : (ℤ → List ℕ → Declaration) → Option ℤ → Option (List ℕ) → Option OutlineLine
sized_declaration f none o = none
sized_declaration f (some z) none = none
sized_declaration f (some z) (some n) = some (declare (f z n))

unfoldable pub named : Option (List ℕ) → Option OutlineLine
named none = none
named (some n) = some (declare (source n))

unfoldable pub host_in : List Token → List Token → Option OutlineLine
host_in [] us = named (name_of us)
host_in (t ∷ ts) us = none

unfoldable pub host_out : List Token → List Token → Option OutlineLine
host_out [] [] = none
host_out [] (u ∷ us) = sized_declaration sink (number_look (look_at u)) (name_of us)
host_out (t ∷ ts) us = none

unfoldable pub guard_of : Syn → Cut → Option OutlineLine
guard_of e (uncut ts) = none
guard_of e (parted ts a-skip us) = word_alone (allowed e) ts us
guard_of e (parted ts a-stop us) = none
guard_of e (parted ts a-seq us) = none
guard_of e (parted ts a-par us) = none
guard_of e (parted ts an-if us) = none
guard_of e (parted ts an-alt us) = none
guard_of e (parted ts a-while us) = none
guard_of e (parted ts becomes us) = none
guard_of e (parted ts asks us) = pair (guarded e) (element_of ts) (element_of us)
guard_of e (parted ts tells us) = none
guard_of e (parted ts ampersand us) = none
guard_of e (parted ts an_int us) = none
guard_of e (parted ts a-chan us) = none
guard_of e (parted ts a-hostin us) = none
guard_of e (parted ts a-hostout us) = none
guard_of e (parted ts colon us) = none
guard_of e (parted ts (unused k) us) = none

unfoldable pub guard_after : Option Syn → Cut → Option OutlineLine
guard_after none c = none
guard_after (some e) c = guard_of e c

unfoldable pub of_cut : Cut → Option OutlineLine
of_cut (uncut ts) = single test (phrase ts)
of_cut (parted ts a-skip us) = word_alone skip ts us
of_cut (parted ts a-stop us) = word_alone stop ts us
of_cut (parted ts a-seq us) = word_alone seq ts us
of_cut (parted ts a-par us) = word_alone par ts us
of_cut (parted ts an-if us) = word_alone ifs ts us
of_cut (parted ts an-alt us) = word_alone alts ts us
of_cut (parted ts a-while us) = while_line ts us
of_cut (parted ts becomes us) = pair assign (element_of ts) (phrase us)
of_cut (parted ts asks us) = pair input (element_of ts) (element_of us)
of_cut (parted ts tells us) = pair output (element_of ts) (phrase us)
of_cut (parted ts ampersand us) = guard_after (phrase ts) (cut_at_mark us)
of_cut (parted ts an_int us) = sized_declaration variable (size_read ts) (name_of us)
of_cut (parted ts a-chan us) = sized_declaration channel (size_read ts) (name_of us)
of_cut (parted ts a-hostin us) = host_in ts us
of_cut (parted ts a-hostout us) = host_out ts us
of_cut (parted ts colon us) = none
of_cut (parted ts (unused k) us) = none

-- the line that some tokens spell
unfoldable pub line_spelt : List Token → Option OutlineLine
line_spelt ts = of_cut (cut_at_mark ts)
