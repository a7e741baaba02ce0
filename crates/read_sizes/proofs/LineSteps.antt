-- The rows that lines make themselves: a text has no more lines than rows.
use mathlib.Core.Path.{◌≡◌}
use mathlib.Core.List.{List, [], ◌∷◌}
use mathlib.Core.Option.{none}
use Prim.Native.Nat.{ℕ, ◌+◌, ◌≤◌}
use native.Mathlib.Omega.{arith}
use lib.ListN.{length}
use Rattle.meaning.specs.Rows.{row_count}
use Rattle.grammar.specs.Grammar.{Syn, literal, bare, at, monadic, dyadic}
use Rattle.grammar.specs.Outline.{OutlineLine, declare, skip, stop, assign, input, output, seq, par, ifs, alts, while, test, guarded, allowed, Lined, lined, Expect, outset}
use Rattle.grammar.specs.TextBytes.{grammar_fault}
use Rattle.grammar.specs.TextRows.{text_lines, text_rows}
use Rattle.read_levels.specs.Kinds.{expectations}
use Rattle.read_counts.specs.OwnRows.{syn_rows, line_rows, sum_rows}
use Rattle.read_counts.proofs.RowsCounted.{rows-counted}
use Rattle.read_layout.specs.Standing.{Standing, stand_all, standings}
use Rattle.read_sizes.specs.Sizes.{own_of, text_standings}

-- the rows that some lines make themselves
unfoldable pub sum_own : List Standing → ℕ
sum_own [] = 0
sum_own (y ∷ ys) = own_of y + sum_own ys

syn-some : (e : Syn) → 1 ≤ syn_rows e
syn-some (literal z) = omega arith
syn-some (bare n) = omega arith
syn-some (at n e) = omega arith
syn-some (monadic k e) = omega arith
syn-some (dyadic k e f) = omega arith

-- each line makes a row
line-some : (e : Expect) (x : OutlineLine) → 1 ≤ line_rows e x
line-some e (declare d) = omega arith
line-some e skip = omega arith
line-some e stop = omega arith
line-some e (assign a f) = omega (arith, syn-some a)
line-some e (input c a) = omega (arith, syn-some c)
line-some e (output c f) = omega (arith, syn-some c)
line-some e seq = omega arith
line-some e par = omega arith
line-some e ifs = omega arith
line-some e alts = omega arith
line-some e (while f) = omega arith
line-some e (test f) = omega (arith, syn-some f)
line-some e (guarded f c a) = omega arith
line-some e (allowed f) = omega arith

all-few : (es : List Expect) (ls : List Lined) → (length (stand_all es ls) ≤ sum_rows line_rows es ls) × (sum_own (stand_all es ls) ≤ sum_rows line_rows es ls)
unfolding stand_all sum_rows sum_own
all-few [] ls = (omega arith, omega arith)
all-few (e ∷ es) [] = (omega arith, omega arith)
all-few (e ∷ es) (lined l x ∷ ls) = let (a, b) = all-few es ls in (omega (arith, a, line-some e x), omega (arith, b))

-- a text has no more lines than rows
pub text-few : (text : List ℕ) → grammar_fault text ≡ none → row_count (text_rows text) ≤ 1024 → (length (text_standings text) ≤ 1024) × (sum_own (text_standings text) ≤ 1024)
unfolding standings
text-few text g h =
    let (a, b) = all-few (expectations outset (text_lines text)) (text_lines text) in
    let r = rows-counted text g in
    (omega (arith, a, r, h), omega (arith, b, r, h))
