-- What a run leaves in the lent buffers says what the run's state says: the printed text made of the buffers is the printed text of the run.
use mathlib.Core.Path.{◌≡◌, refl, sym, ap, ap₂, ◌∙◌}
use mathlib.Core.List.{List, [], ◌∷◌, ◌++◌, map, append_assoc}
use mathlib.Core.Option.{none, some}
use Prim.Native.Nat.{ℕ, zero, suc, ◌+◌, ◌-◌, ◌*◌, ◌≤◌}
use native.Mathlib.Numerals.{add-one}
use native.Mathlib.Omega.{arith}
use lib.IntN.{ℤ, pos}
use lib.ListN.{length, take, drop, replicate, length-append, length-drop, length-map}
use lib.Seq.{take_all, take-append-le, drop-append-le, drop_at}
use Rattle.meaning.specs.declared.Outcome.{Outcome}
use Rattle.meaning.specs.Limits.{max_rows, max_cells, max_host_channels, max_capacity}
use Rattle.meaning.specs.Rows.{row_count}
use Rattle.meaning.specs.Declarations.{declarations, sum_below, cells_at, capacity_at, total_cells, host_channels, channels}
use Rattle.meaning.specs.Values.{Message}
use Rattle.meaning.specs.State.{State}
use Rattle.meaning.specs.Buffers.{Buffers, sized, lent, mark, number_in, decoded, capacities, strips, encode}
use Rattle.meaning.specs.Printing.{Line, var_word, numbered, cells_of, cell_lines, out_lines, stop_lines, outcome_line, end_lines, printed_lines}
use Rattle.meaning.specs.Answers.{ran}
use Rattle.meaning.specs.Runner.{printed_result}
use Rattle.meaning.proofs.LentLaws.{sized-length, sized-front, sized-is, lent-front, lent-whole}
use Rattle.write_lines.specs.Decoding.{outputs_in, table_rows, state_in}
use Rattle.write_lines.proofs.RowLines.{cells_below, cells-below-none, cells-below-all, cells-below-more, total, host-channels-below, capacities-below}

-- Messages --------------------------------------------------------------------------------------------------------------------------

-- messages come back from their marks and numbers, with whatever stands behind
cells-back : (cells : List Message) (ms : List ℕ) (zs : List ℤ) → decoded (map number_in cells ++ zs) (map mark cells ++ ms) ≡ cells ++ decoded zs ms
cells-back [] ms zs = refl
cells-back (none ∷ cells) ms zs = ap {B = List Message} (λ l. none ∷ l) (cells-back cells ms zs)
cells-back (some z ∷ cells) ms zs = ap {B = List Message} (λ l. some z ∷ l) (cells-back cells ms zs)

-- messages come back from the fronts of two lent buffers, with some behind them
abbrev messages-behind : ℕ → List Message → List Message
messages-behind n xs = decoded (replicate (n - length (map number_in xs)) (pos 0)) (replicate (n - length (map mark xs)) 0)

messages-back : (n : ℕ) (xs : List Message) (old_numbers : List ℤ) (old_marks : List ℕ) → length xs ≤ n
    → decoded (take n (lent n (pos 0) (map number_in xs) old_numbers)) (take n (lent n 0 (map mark xs) old_marks)) ≡ xs ++ messages-behind n xs
messages-back n xs old_numbers old_marks h =
    ap₂ decoded
    (lent-front (pos 0) n (map number_in xs) old_numbers ∙ sized-is (pos 0) n (map number_in xs) (omega (arith, length-map xs number_in)))
    (lent-front 0 n (map mark xs) old_marks ∙ sized-is 0 n (map mark xs) (omega (arith, length-map xs mark)))
    ∙ cells-back xs _ _

module _ (rows : List ℤ) (cells more : List Message) where
  -- a variable whose cells are there does not look behind them
  cells-inside : (r : ℕ) → sum_below (cells_at rows) r + cells_at rows r ≤ length cells → cells_of rows (cells ++ more) r ≡ cells_of rows cells r
  cells-inside r h =
      ap (take (cells_at rows r)) (drop-append-le (sum_below (cells_at rows) r) cells more (omega arith))
      ∙ take-append-le (cells_at rows r) (drop (sum_below (cells_at rows) r) cells) more (omega (arith, length-drop (sum_below (cells_at rows) r) cells))

  lines-inside : (r : ℕ) → sum_below (cells_at rows) r ≤ length cells → cells_below rows (cells ++ more) r ≡ cells_below rows cells r
  unfolding sum_below
  lines-inside zero h = cells-below-none rows (cells ++ more) ∙ sym (cells-below-none rows cells)
  lines-inside (suc r) h =
      one_more (cells ++ more)
      ∙ ap₂ (λ (l : List Line) (m : List Message). l ++ numbered var_word r 0 m) (lines-inside r (omega arith)) (cells-inside r h)
      ∙ sym (one_more cells)
    where
      one_more : (l : List Message) → cells_below rows l (suc r) ≡ cells_below rows l r ++ numbered var_word r 0 (cells_of rows l r)
      one_more l = ap (cells_below rows l) (sym (add-one r)) ∙ cells-below-more rows l r

  pub cell-lines-inside : length cells ≡ total_cells rows → cell_lines rows (cells ++ more) ≡ cell_lines rows cells
  unfolding total_cells
  cell-lines-inside h =
      sym (cells-below-all rows (cells ++ more)) ∙ lines-inside (declarations rows) (omega (arith, h)) ∙ cells-below-all rows cells

-- Output lists ----------------------------------------------------------------------------------------------------------------------

-- lists within their capacities
pub data Within : List ℕ → List (List Message) → Type 0 where
  within_none : Within [] []
  within_more : {k : ℕ} {ks : List ℕ} {xs : List Message} {xss : List (List Message)} → length xs ≤ k → Within ks xss → Within (k ∷ ks) (xs ∷ xss)

length-outputs : (ks : List ℕ) (xss : List (List Message)) → Within ks xss → length xss ≡ length ks
length-outputs (k ∷ ks) [] x3 = elim x3 [ ]
length-outputs [] (xs ∷ xss) x'' = elim x'' [ ]
length-outputs [] [] within_none = refl
length-outputs (k ∷ ks) (xs ∷ xss) (within_more h w) = ap suc (length-outputs ks xss w)

length-strips : (f : ℕ → ℕ) (cs : List ℕ) (xss : List (List Message)) → Within (map f cs) xss → length (strips (map f cs) xss) ≡ total f cs
unfolding strips total
length-strips f (c ∷ cs) [] x3 = elim x3 [ ]
length-strips f [] (xs ∷ xss) x'' = elim x'' [ ]
length-strips f [] [] within_none = refl
length-strips f (c ∷ cs) (xs ∷ xss) (within_more h w) =
    length-append (sized (f c) none xs) (strips (map f cs) xss)
    ∙ ap₂ (λ (i j : ℕ). i + j) (sized-length none (f c) xs) (length-strips f cs xss w)

-- the lists come back from the strips, with whatever stands behind
outputs-back : (ks : List ℕ) (xss : List (List Message)) (counts : List ℕ) (ys : List Message) → Within ks xss → outputs_in ks (map length xss ++ counts) (strips ks xss ++ ys) ≡ xss
unfolding outputs_in strips
outputs-back (k ∷ ks) [] counts ys x3 = elim x3 [ ]
outputs-back [] (xs ∷ xss) counts ys x'' = elim x'' [ ]
outputs-back [] [] counts ys within_none = refl
outputs-back (k ∷ ks) (xs ∷ xss) counts ys (within_more h w) =
    ap (λ (l : List Message). take (length xs) l ∷ outputs_in ks (map length xss ++ counts) (drop k l)) (append_assoc S (strips ks xss) ys)
    ∙ ap₂ (λ (l m : List Message). l ∷ outputs_in ks (map length xss ++ counts) m)
    (take-append-le (length xs) S (strips ks xss ++ ys) (omega (arith, sized-length none k xs)) ∙ sized-front none k xs h)
    (drop_at S (strips ks xss ++ ys) k (sized-length none k xs))
    ∙ ap {B = List (List Message)} (λ l. xs ∷ l) (outputs-back ks xss counts ys w)
  where
    S : List Message
    S = sized k none xs

-- The printed text --------------------------------------------------------------------------------------------------------------------------

-- a state has just the rows, cells and output channels of its table, and the table is within the limits
pub record Held (rows : List ℤ) (s : State) : Type 0 where
  pub rows_few : row_count rows ≤ max_rows
  pub states-all : length s.states ≡ row_count rows
  pub cells-few : total_cells rows ≤ max_cells
  pub cells-all : length s.store.cells ≡ total_cells rows
  pub host-channels-few : host_channels 2 rows ≤ max_host_channels
  pub capacity-few : sum_below (capacity_at rows) (declarations rows) ≤ max_capacity
  pub outputs-within : Within (capacities rows) s.store.outputs

module _ (rows : List ℤ) (s : State) (b : Buffers) (h : Held rows s) where
  -- what the buffers say
  abbrev said : State
  said =
      let e = encode rows s b in
      state_in rows e.cells e.marks e.states e.numbers e.counts e.output_marks

  cells-said : cell_lines rows said.store.cells ≡ cell_lines rows s.store.cells
  unfolding encode
  cells-said =
      let few : length s.store.cells ≤ max_cells = (let a = h.cells-all in let f = h.cells-few in omega arith) in
      ap (cell_lines rows) (messages-back max_cells s.store.cells b.cells b.marks few)
      ∙ cell-lines-inside rows s.store.cells _ h.cells-all

  -- as many output lists as output channels, as many messages as capacities
  lists-few : length (map length s.store.outputs) ≤ max_host_channels
  unfolding channels host_channels
  lists-few =
      let f = h.host-channels-few in
      omega (arith, length-map s.store.outputs length, length-outputs (capacities rows) s.store.outputs h.outputs-within, length-map (channels rows 2) (capacity_at rows), host-channels-below rows (declarations rows))

  messages-few : length (strips (capacities rows) s.store.outputs) ≤ max_capacity
  unfolding channels
  messages-few =
      let f = h.capacity-few in
      omega (arith, length-strips (capacity_at rows) (channels rows 2) s.store.outputs h.outputs-within, capacities-below rows (declarations rows))

  outputs-said : said.store.outputs ≡ s.store.outputs
  unfolding encode
  outputs-said =
      ap₂ (outputs_in (capacities rows))
      (lent-front 0 max_host_channels (map length s.store.outputs) b.counts ∙ sized-is 0 max_host_channels (map length s.store.outputs) lists-few)
      (messages-back max_capacity (strips (capacities rows) s.store.outputs) b.numbers b.output_marks messages-few)
      ∙ outputs-back (capacities rows) s.store.outputs _ _ h.outputs-within

  states-said : said.states ≡ s.states
  unfolding encode
  states-said = lent-whole 0 max_rows (row_count rows) s.states b.states h.states-all h.rows_few

  -- the lines of what is in the buffers are the lines of the run
  pub lines-said : (o : Outcome) (n : ℕ) → end_lines rows o n said ≡ end_lines rows o n s
  unfolding end_lines
  lines-said o n =
      ap₂ (λ (l : List Line) (xss : List (List Message)). outcome_line o n ∷ l ++ out_lines (channels rows 2) xss ++ stop_lines 0 said.states) cells-said outputs-said
      ∙ ap (λ (qs : List ℕ). outcome_line o n ∷ cell_lines rows s.store.cells ++ out_lines (channels rows 2) s.store.outputs ++ stop_lines 0 qs) states-said

  -- what `run_printed_text` is given by what a run leaves, it prints as the sheet runner's definition says
  pub printed-text-said : length rows ≤ 4 * max_rows → (o : Outcome) (n total : ℕ)
      → let e = encode rows s b in
      printed_lines (end_lines (table_rows rows) o n (state_in (table_rows rows) e.cells e.marks e.states e.numbers e.counts e.output_marks)) ≡ printed_result rows (ran (record { outcome = o; steps = n; ready = total; state = s }))
  printed-text-said few o n total =
      let e = encode rows s b in
      ap (λ (t : List ℤ). printed_lines (end_lines t o n (state_in t e.cells e.marks e.states e.numbers e.counts e.output_marks))) (take_all (4 * max_rows) rows few)
      ∙ ap printed_lines (lines-said o n)
