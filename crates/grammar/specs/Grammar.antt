-- The grammar of expressions, as relations between a list of tokens and the expression that it spells. Brackets leave no trace in the expression.
use Rattle.std.specs.Prelude.{List, [], ◌∷◌, ◌++◌, ℕ, ℤ}

-- AND, OR
pub data Link : Type 0 where
  both either : Link

-- a word or symbol that stands in no expression: SKIP, STOP, SEQ, PAR, IF, ALT, WHILE, `:=`, `?`, `!`, `&`, INT, CHAN, HOSTIN, HOSTOUT, `:`, and those that stand in no line
pub data Mark : Type 0 where
  a-skip a-stop a-seq a-par an-if an-alt a-while becomes asks tells ampersand : Mark
  an_int a-chan a-hostin a-hostout colon : Mark
  unused : ℕ → Mark

-- a token: a name is its letters, an operator its number of document 01
pub data Token : Type 0 where
  name : List ℕ → Token
  number : ℤ → Token
  minus not-word given : Token
  arith : ℕ → Token
  joins : Link → Token
  round-open round-close square-open square-close : Token
  mark : Mark → Token

-- an expression; a bare name and an element with a subscript
pub data Syn : Type 0 where
  literal : ℤ → Syn
  bare : List ℕ → Syn
  at : List ℕ → Syn → Syn
  monadic : ℕ → Syn → Syn
  dyadic : ℕ → Syn → Syn → Syn

-- the number of AND and of OR
abbrev pub link_number : Link → ℕ
link_number both = 14
link_number either = 15

-- an operator before its operand, and its number
pub data Before : Token → ℕ → Type 0 where
  minus-before : Before minus 0
  not-before : Before not-word 1

-- an operator between its operands that makes no chain, and its number
pub data Between : Token → ℕ → Type 0 where
  minus-between : Between minus 1
  arith-between : {k : ℕ} → Between (arith k) k

mutual
  pub data Element : List Token → Syn → Type 0 where
    alone : {n : List ℕ} → Element (name n ∷ []) (bare n)
    subscripted : {n : List ℕ} {ts : List Token} {e : Syn} → Phrase ts e → Element (name n ∷ square-open ∷ (ts ++ (square-close ∷ []))) (at n e)

  pub data Operand : List Token → Syn → Type 0 where
    element : {ts : List Token} {e : Syn} → Element ts e → Operand ts e
    numeral : {z : ℤ} → Operand (number z ∷ []) (literal z)
    bracketed : {ts : List Token} {e : Syn} → Phrase ts e → Operand (round-open ∷ (ts ++ (round-close ∷ []))) e

  pub data Phrase : List Token → Syn → Type 0 where
    plain : {ts : List Token} {e : Syn} → Operand ts e → Phrase ts e
    prefixed : {t : Token} {k : ℕ} {ts : List Token} {e : Syn} → Before t k → Operand ts e → Phrase (t ∷ ts) (monadic k e)
    asked : {ts : List Token} {e : Syn} → Element ts e → Phrase (given ∷ ts) (monadic 2 e)
    paired : {t : Token} {k : ℕ} {ts us : List Token} {e f : Syn} → Operand ts e → Between t k → Operand us f → Phrase (ts ++ (t ∷ us)) (dyadic k e f)
    chained : {l : Link} {ts us : List Token} {e f : Syn} → Operand ts e → Chain l us f → Phrase (ts ++ (joins l ∷ us)) (dyadic (link_number l) e f)

  -- the operands of a chain after its first, grouped to the right
  pub data Chain : Link → List Token → Syn → Type 0 where
    last-operand : {l : Link} {ts : List Token} {e : Syn} → Operand ts e → Chain l ts e
    more : {l : Link} {ts us : List Token} {e f : Syn} → Operand ts e → Chain l us f → Chain l (ts ++ (joins l ∷ us)) (dyadic (link_number l) e f)
