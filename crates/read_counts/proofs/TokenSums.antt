-- The rows of an expression, and of a line, are told from their tokens, by induction on the derivation.
use mathlib.Core.Path.{◌≡◌, refl, sym, ap, ◌∙◌}
use mathlib.Core.Bool.{false, false≢true}
use mathlib.Core.List.{List, [], ◌∷◌, ◌++◌, map, map-append}
use Prim.Native.Nat.{ℕ, suc, ◌+◌}
use native.Mathlib.Omega.{arith}
use Rattle.grammar.specs.Grammar.{Link, both, either, Token, name, joins, round-open, round-close, square-open, square-close, mark, becomes, asks, tells, ampersand, a-skip, Syn, Before, minus-before, not-before, Between, minus-between, arith-between, Element, alone, subscripted, element, numeral, bracketed, Phrase, plain, prefixed, asked, paired, chained, last-operand, more}
use Rattle.grammar.specs.Outline.{OutlineLine, is_declaration}
use Rattle.grammar.specs.Lines.{Spells, declares, word, repeats, assigns, inputs, outputs, tests, guards, allows, skips, stops, seqs, pars, chooses, selects}
use Rattle.read_tokens.specs.Held.{token_sort}
use Rattle.read_counts.specs.OwnRows.{syn_rows, part_rows}
use Rattle.read_counts.specs.TokenRows.{sort_rows, sort_less, full_rows, less_rows, LineTokens}

full-append : (ss rs : List ℕ) → full_rows (ss ++ rs) ≡ full_rows ss + full_rows rs
unfolding full_rows
full-append [] rs = omega arith
full-append (s ∷ ss) rs = let h = full-append ss rs in omega (arith, h)

less-append : (ss rs : List ℕ) → less_rows (ss ++ rs) ≡ less_rows ss + less_rows rs
unfolding less_rows
less-append [] rs = omega arith
less-append (s ∷ ss) rs = let h = less-append ss rs in omega (arith, h)

-- the rows that tokens add, and those that they take away
abbrev added : List Token → ℕ
added ts = full_rows (map token_sort ts)

abbrev taken : List Token → ℕ
taken ts = less_rows (map token_sort ts)

added-append : (ts us : List Token) → added (ts ++ us) ≡ added ts + added us
added-append ts us = ap full_rows (map-append token_sort ts us) ∙ full-append (map token_sort ts) (map token_sort us)

taken-append : (ts us : List Token) → taken (ts ++ us) ≡ taken ts + taken us
taken-append ts us = ap less_rows (map-append token_sort ts us) ∙ less-append (map token_sort ts) (map token_sort us)

-- tokens that make some rows
abbrev Makes : List Token → ℕ → Type 0
Makes ts n = added ts ≡ n + taken ts

-- tokens around a token
joined : (ts : List Token) (t : Token) (us : List Token) (n m : ℕ) → sort_less (token_sort t) ≡ 0 → Makes ts n → Makes us m → Makes (ts ++ (t ∷ us)) (n + (sort_rows (token_sort t) + m))
unfolding full_rows less_rows
joined ts t us n m z p q = let a = added-append ts (t ∷ us) in let b = taken-append ts (t ∷ us) in omega (arith, z, p, q, a, b)

closed : (ts : List Token) (t : Token) (n : ℕ) → sort_rows (token_sort t) ≡ 0 → sort_less (token_sort t) ≡ 0 → Makes ts n → Makes (ts ++ (t ∷ [])) n
unfolding full_rows less_rows
closed ts t n y z p = let a = added-append ts (t ∷ []) in let b = taken-append ts (t ∷ []) in omega (arith, y, z, p, a, b)

link_row : (l : Link) → (sort_rows (token_sort (joins l)) ≡ 1) × (sort_less (token_sort (joins l)) ≡ 0)
link_row both = (refl, refl)
link_row either = (refl, refl)

before-row : {t : Token} {k : ℕ} → Before t k → (sort_rows (token_sort t) ≡ 1) × (sort_less (token_sort t) ≡ 0)
before-row minus-before = (refl, refl)
before-row not-before = (refl, refl)

between-row : {t : Token} {k : ℕ} → Between t k → (sort_rows (token_sort t) ≡ 1) × (sort_less (token_sort t) ≡ 0)
between-row minus-between = (refl, refl)
between-row arith-between = (refl, refl)

-- an expression in a subscript
subscript-makes : (n : List ℕ) (ts : List Token) (e : Syn) → Makes ts (syn_rows e) → Makes (name n ∷ square-open ∷ (ts ++ (square-close ∷ []))) (suc (syn_rows e))
unfolding full_rows less_rows
subscript-makes n ts e h = let i = closed ts square-close (syn_rows e) refl refl h in omega (arith, i)

-- and in brackets
bracket-makes : (ts : List Token) (e : Syn) → Makes ts (syn_rows e) → Makes (round-open ∷ (ts ++ (round-close ∷ []))) (syn_rows e)
unfolding full_rows less_rows
bracket-makes ts e h = let i = closed ts round-close (syn_rows e) refl refl h in omega (arith, i)

-- after an operator
prefix-makes : (t : Token) (k : ℕ) (ts : List Token) (e : Syn) → Before t k → Makes ts (syn_rows e) → Makes (t ∷ ts) (suc (syn_rows e))
unfolding full_rows less_rows
prefix-makes t k ts e b h = let (y, z) = before-row b in omega (arith, y, z, h)

-- around an operator that makes a row
pair-makes : (t : Token) (ts us : List Token) (e f : Syn) → (sort_rows (token_sort t) ≡ 1) × (sort_less (token_sort t) ≡ 0) → Makes ts (syn_rows e) → Makes us (syn_rows f)
    → Makes (ts ++ (t ∷ us)) (suc (syn_rows e + syn_rows f))
pair-makes t ts us e f (y, z) p q = let i = joined ts t us (syn_rows e) (syn_rows f) z p q in omega (arith, i, y)

phrase-makes : {ts : List Token} {e : Syn} → Phrase ts e → Makes ts (syn_rows e)
unfolding full_rows less_rows
phrase-makes p = elim p as (λ ts e q. Makes ts (syn_rows e)) (λ ts e q. Makes ts (syn_rows e)) (λ ts e q. Makes ts (syn_rows e)) (λ l ts e q. Makes ts (syn_rows e)) [
  | alone {n} ↦ refl
  | subscripted {n} {ts} {e} (q → h) ↦ subscript-makes n ts e h
  | element (q → h) ↦ h
  | numeral {z} ↦ refl
  | bracketed {ts} {e} (q → h) ↦ bracket-makes ts e h
  | plain {ts} {e} (q → h) ↦ h
  | prefixed {t} {k} {ts} {e} b (q → h) ↦ prefix-makes t k ts e b h
  | asked {ts} {e} (q → h) ↦ omega (arith, h)
  | paired {t} {k} {ts} {us} {e} {f} (q → h) b (u → i) ↦ pair-makes t ts us e f (between-row b) h i
  | chained {l} {ts} {us} {e} {f} (q → h) (c → i) ↦ pair-makes (joins l) ts us e f (link_row l) h i
  | last-operand {l} {ts} {e} (q → h) ↦ h
  | more {l} {ts} {us} {e} {f} (q → h) (c → i) ↦ pair-makes (joins l) ts us e f (link_row l) h i
]

element-makes : {ts : List Token} {e : Syn} → Element ts e → Makes ts (syn_rows e)
unfolding full_rows less_rows
element-makes p = let h = phrase-makes (asked p) in omega (arith, h)

-- a line that is no declaration
line-makes : {ts : List Token} {x : OutlineLine} → Spells ts x → is_declaration x ≡ false → Makes ts (part_rows x)
unfolding full_rows less_rows
line-makes (declares h) d = absurd (false≢true (sym d))
line-makes (word skips) d = refl
line-makes (word stops) d = refl
line-makes (word seqs) d = refl
line-makes (word pars) d = refl
line-makes (word chooses) d = refl
line-makes (word selects) d = refl
line-makes (repeats p) d = let h = phrase-makes p in omega (arith, h)
line-makes (assigns {ts} {us} {a} {e} p q) d = let i = joined ts (mark becomes) us (syn_rows a) (syn_rows e) refl (element-makes p) (phrase-makes q) in omega (arith, i)
line-makes (inputs {ts} {us} {c} {a} p q) d = let i = joined ts (mark asks) us (syn_rows c) (syn_rows a) refl (element-makes p) (element-makes q) in omega (arith, i)
line-makes (outputs {ts} {us} {c} {e} p q) d = let i = joined ts (mark tells) us (syn_rows c) (syn_rows e) refl (element-makes p) (phrase-makes q) in omega (arith, i)
line-makes (tests p) d = phrase-makes p
line-makes (guards {ts} {us} {vs} {e} {c} {a} p q r) d =
    let i = joined us (mark asks) vs (syn_rows c) (syn_rows a) refl (element-makes q) (element-makes r) in
    let j = joined ts (mark ampersand) (us ++ (mark asks ∷ vs)) (syn_rows e) (syn_rows c + (0 + syn_rows a)) refl (phrase-makes p) i in
    omega (arith, j)
line-makes (allows {ts} {e} p) d = let i = joined ts (mark ampersand) (mark a-skip ∷ []) (syn_rows e) 1 refl (phrase-makes p) refl in omega (arith, i)

pub line-tokens : LineTokens
line-tokens e ts x d s = let h = line-makes s d in rw d (omega (arith, h))
