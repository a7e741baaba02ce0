-- A printed text has at most 2,305 lines of at most 42 bytes each after the line of names: 98,304 bytes hold every printed text and every refusal.
use mathlib.Core.Path.{◌≡◌, refl, sym, ap, ◌∙◌}
use mathlib.Core.Bool.{Bool, true, false}
use mathlib.Core.Option.{none, some}
use mathlib.Core.List.{List, [], ◌∷◌, ◌++◌, map, flatten}
use Prim.Native.Nat.{ℕ, zero, suc, ◌+◌, ◌-◌, ◌*◌, ◌<◌, ◌≤◌}
use native.Mathlib.Numerals.{add-one}
use native.Mathlib.Omega.{arith}
use lib.IntN.{ℤ, pos}
use lib.ListN.{length, get_or, drop, length-append, length-take, length-drop}
use lib.Dec.{leb}
use Rattle.meaning.specs.declared.Outcome.TheVariants.{Ended, Stuck, Broken, Spent}
use Rattle.meaning.specs.Texts.{comma, line_feed}
use Rattle.meaning.specs.Basics.{if_else, all_below}
use Rattle.meaning.specs.Numerals.{decimal}
use Rattle.meaning.specs.Declarations.{declarations, sum_below, has_role, cells_at, capacity_at, total_cells, channels}
use Rattle.meaning.specs.Values.{Message}
use Rattle.meaning.specs.Run.{RunResult}
use Rattle.meaning.specs.PrintedForms.{Each, each_none, each_more, IsReading}
use Rattle.meaning.specs.Printing.{Word, outcome_word, var_word, out_word, stop_word, refused_word, Line, line, numbered, cells_of, cell_lines, out_lines, stop_lines, outcome_line, end_lines, run_lines, refused_line, word_bytes, value_bytes, line_bytes, names_line, printed_lines}
use Rattle.base_numbers.proofs.Decimals.{ten-digits}
use Rattle.base_numbers.proofs.Texts.{printed-short}
use Rattle.base_rows.proofs.Leading.{declarations-at-most}
use Rattle.write_lines.proofs.Encoded.{Within, within_none, within_more, Held}
use Rattle.write_lines.proofs.RowLines.{cells_below, cells-below-none, cells-below-all, cells-below-more, total, sinks, capacities-below}
use Rattle.call_runner.specs.PrintedTexts.{max_printed_text}
use Rattle.call_runner.proofs.Lists.{each_of, each_both, each_take, each-drop}

-- Lines -------------------------------------------------------------------------------------------------------------------------

-- a line of numbers that have 32 bits
pub record Fine (l : Line) : Type 0 where
  pub name : l.name < 4294967296
  pub at : l.at < 4294967296
  pub value : IsReading l.value

word-short : (w : Word) → length (word_bytes w) ≤ 7
unfolding word_bytes
word-short (outcome_word Ended) = omega arith
word-short (outcome_word Stuck) = omega arith
word-short (outcome_word Broken) = omega arith
word-short (outcome_word Spent) = omega arith
word-short var_word = omega arith
word-short out_word = omega arith
word-short stop_word = omega arith
word-short refused_word = omega arith

value-short : (m : Message) → IsReading m → length (value_bytes m) ≤ 11
value-short none h = omega arith
value-short (some z) h = printed-short z h

-- the fields of a line, together
fields-short : (w n i v : List ℕ) → length w ≤ 7 → length n ≤ 10 → length i ≤ 10 → length v ≤ 11 → length (w ++ (comma ∷ n) ++ (comma ∷ i) ++ (comma ∷ v) ++ (line_feed ∷ [])) ≤ 42
fields-short w n i v a b c d =
    omega (
      arith,
      length-append w (comma ∷ n),
      length-append (w ++ (comma ∷ n)) (comma ∷ i),
      length-append (w ++ (comma ∷ n) ++ (comma ∷ i)) (comma ∷ v),
      length-append (w ++ (comma ∷ n) ++ (comma ∷ i) ++ (comma ∷ v)) (line_feed ∷ []),
    )

pub line-short : (l : Line) → Fine l → length (line_bytes l) ≤ 42
unfolding line_bytes
line-short l h = fields-short (word_bytes l.what) (decimal l.name) (decimal l.at) (value_bytes l.value) (word-short l.what) (ten-digits l.name h.name) (ten-digits l.at h.at) (value-short l.value h.value)

lines-short : (ls : List Line) → Each Fine ls → length (flatten (map line_bytes ls)) ≤ 42 * length ls
unfolding flatten
lines-short [] each_none = omega arith
lines-short (l ∷ ls) (each_more p h) = omega (arith, length-append (line_bytes l) (flatten (map line_bytes ls)), line-short l p, lines-short ls h)

-- the rows below n, of which a test holds
all-below : (q : ℕ → Bool) (n : ℕ) → n ≤ 1024 → Each (λ c. c < 4294967296) (all_below q n)
unfolding all_below
all-below q zero h = each_none
all-below q (suc n) h = each_both (all-below q n (omega arith)) (go (q n))
  where
    go : (t : Bool) → Each (λ c. c < 4294967296) (if_else t (n ∷ []) [])
    go true = each_more {x = n} (omega arith) each_none
    go false = each_none

-- Numbered lines ------------------------------------------------------------------------------------------------------------------

numbered-length : (w : Word) (r i : ℕ) (vs : List Message) → length (numbered w r i vs) ≡ length vs
unfolding numbered
numbered-length w r i [] = refl
numbered-length w r i (v ∷ vs) = ap suc (numbered-length w r (suc i) vs)

numbered-fine : (w : Word) (r i : ℕ) (vs : List Message) → r < 4294967296 → i + length vs ≤ 4294967296 → Each IsReading vs → Each Fine (numbered w r i vs)
unfolding numbered
numbered-fine w r i [] h k each_none = each_none
numbered-fine w r i (v ∷ vs) h k (each_more p g) = each_more {x = line w r i v} (record { name = h; at = omega arith; value = p }) (numbered-fine w r (suc i) vs h (omega arith) g)

module _ (rows : List ℤ) (cells : List Message) (few : length cells ≤ 256) (h : Each IsReading cells) where
  cells-below : (r : ℕ) → r ≤ 1024 → (length (cells_below rows cells r) ≤ sum_below (cells_at rows) r) × Each Fine (cells_below rows cells r)
  unfolding sum_below
  cells-below zero k = rw (cells-below-none rows cells) (omega arith, each_none)
  cells-below (suc r) k =
      let ih = cells-below r (omega arith) in
      let vs = cells_of rows cells r in
      let front = drop (sum_below (cells_at rows) r) cells in
      let e = ap (cells_below rows cells) (sym (add-one r)) ∙ cells-below-more rows cells r in
      let size = length-take (cells_at rows r) front in
      let left = length-drop (sum_below (cells_at rows) r) cells in
      rw e (
        (let a = ih.0 in omega (arith, length-append (cells_below rows cells r) (numbered var_word r 0 vs), numbered-length var_word r 0 vs, size)),
        each_both ih.1 (numbered-fine var_word r 0 vs (omega arith) (omega (arith, size, left)) (each_take (cells_at rows r) (each-drop (sum_below (cells_at rows) r) h))),
      )

  cell-lines : declarations rows ≤ 1024 → (length (cell_lines rows cells) ≤ sum_below (cells_at rows) (declarations rows)) × Each Fine (cell_lines rows cells)
  cell-lines k = rw (← cells-below-all rows cells) (cells-below (declarations rows) k)

out-lines : (f : ℕ → ℕ) (cs : List ℕ) (xss : List (List Message)) → Each (λ c. c < 4294967296) cs → Within (map f cs) xss → total f cs ≤ 1024 → ((p : ℕ) → Each IsReading (get_or xss p []))
    → (length (out_lines cs xss) ≤ total f cs) × Each Fine (out_lines cs xss)
unfolding out_lines total
out-lines f (c ∷ cs) [] h x6 k g = elim x6 [ ]
out-lines f [] (xs ∷ xss) h x8 k g = elim x8 [ ]
out-lines f [] [] h within_none k g = (omega arith, each_none)
out-lines f (c ∷ cs) (xs ∷ xss) (each_more l h) (within_more n w) k g =
    let ih = out-lines f cs xss h w (omega arith) (λ p. g (suc p)) in (
      (let a = ih.0 in omega (arith, length-append (numbered out_word c 0 xs) (out_lines cs xss), numbered-length out_word c 0 xs)),
      each_both (numbered-fine out_word c 0 xs l (omega arith) (g 0)) ih.1,
    )

stop-lines : (r : ℕ) (qs : List ℕ) → r + length qs ≤ 4294967296 → Each (λ q. q < 256) qs → (length (stop_lines r qs) ≤ length qs) × Each Fine (stop_lines r qs)
unfolding stop_lines
stop-lines r [] h each_none = (omega arith, each_none)
stop-lines r (q ∷ qs) h (each_more p g) = go (leb 10 q) (stop-lines (suc r) qs (omega arith) g)
  where
    one : Line
    one = line stop_word r 0 (some (pos (q - 10)))

    go : (t : Bool) → (length (stop_lines (suc r) qs) ≤ length qs) × Each Fine (stop_lines (suc r) qs)
        → (length (if_else t (one ∷ []) [] ++ stop_lines (suc r) qs) ≤ suc (length qs)) × Each Fine (if_else t (one ∷ []) [] ++ stop_lines (suc r) qs)
    go true ih = ((let a = ih.0 in omega arith), each_more {x = one} (record { name = omega arith; at = omega arith; value = omega arith }) ih.1)
    go false ih = ((let a = ih.0 in omega arith), ih.1)

-- Printed texts ---------------------------------------------------------------------------------------------------------------------------

lines-printed-text : (ls : List Line) → Each Fine ls → length (printed_lines ls) ≤ 19 + 42 * length ls
unfolding printed_lines
lines-printed-text ls h = both names_line (flatten (map line_bytes ls)) (42 * length ls) refl (lines-short ls h)
  where
    both : (a b : List ℕ) (m : ℕ) → length a ≡ 19 → length b ≤ m → length (a ++ b) ≤ 19 + m
    both a b m e k = omega (arith, length-append a b)

-- the four parts of a run's lines
parts-few : (l : Line) (a b c : List Line) → length a ≤ 256 → length b ≤ 1024 → length c ≤ 1024 → length (l ∷ a ++ b ++ c) ≤ 2305
parts-few l a b c h i j = omega (arith, length-append (l ∷ a) b, length-append (l ∷ a ++ b) c)

within-printed-text : (size lines : ℕ) → size ≤ 19 + 42 * lines → lines ≤ 2305 → size ≤ max_printed_text
within-printed-text size lines h k = omega arith

module _ (rows : List ℤ) (q : RunResult) (h : Held rows q.state) where
  few-declarations : declarations rows ≤ 1024
  few-declarations = let k = h.rows_few in omega (arith, declarations-at-most rows)

  cells-fine : ((i : ℕ) → IsReading (get_or q.state.store.cells i none)) → (length (cell_lines rows q.state.store.cells) ≤ 256) × Each Fine (cell_lines rows q.state.store.cells)
  unfolding total_cells
  cells-fine g =
      let a = h.cells-all in
      let b = h.cells-few in
      let k = cell-lines rows q.state.store.cells (omega arith) (each_of none q.state.store.cells g) few-declarations in
      (let c = k.0 in omega arith, k.1)

  outputs-fine : ((p : ℕ) → Each IsReading (get_or q.state.store.outputs p [])) → (length (out_lines (channels rows 2) q.state.store.outputs) ≤ 1024) × Each Fine (out_lines (channels rows 2) q.state.store.outputs)
  unfolding channels
  outputs-fine g =
      let c = h.capacity-few in
      let e = capacities-below rows (declarations rows) in
      let k = out-lines (capacity_at rows) (sinks rows (declarations rows)) q.state.store.outputs (all-below (has_role 2 rows) (declarations rows) few-declarations) h.outputs-within (omega arith) g in
      (let d = k.0 in omega arith, k.1)

  stops-fine : Each (λ n. n < 256) q.state.states → (length (stop_lines 0 q.state.states) ≤ 1024) × Each Fine (stop_lines 0 q.state.states)
  stops-fine g =
      let a = h.states-all in
      let b = h.rows_few in
      let k = stop-lines 0 q.state.states (omega arith) g in
      (let c = k.0 in omega arith, k.1)

  -- a run's printed text
  pub printed-text-short : q.steps ≤ 65536 → ((i : ℕ) → IsReading (get_or q.state.store.cells i none)) → ((p : ℕ) → Each IsReading (get_or q.state.store.outputs p [])) → Each (λ n. n < 256) q.state.states
      → length (printed_lines (run_lines rows q)) ≤ max_printed_text
  unfolding end_lines outcome_line
  printed-text-short few cells outputs states =
      let (a, c) = cells-fine cells in
      let (b, o) = outputs-fine outputs in
      let (d, s) = stops-fine states in
      let first = line (outcome_word q.outcome) 0 0 (some (pos q.steps)) in
      let fine : Fine first = record { name = omega arith; at = omega arith; value = omega arith } in
      let count = parts-few first (cell_lines rows q.state.store.cells) (out_lines (channels rows 2) q.state.store.outputs) (stop_lines 0 q.state.states) a b d in
      let size = lines-printed-text _ (each_both (each_both (each_more fine c) o) s) in
      within-printed-text _ _ size count

-- the line of a refusal
pub refusal-short : (n p : ℕ) → n < 256 → p < 4294967296 → length (line_bytes (refused_line (n, p))) ≤ max_printed_text
refusal-short n p h k = omega (arith, line-short (refused_line (n, p)) (record { name = omega arith; at = k; value = omega arith }))
