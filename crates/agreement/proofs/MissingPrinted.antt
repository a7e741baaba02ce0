-- The printed field of a cell is empty exactly if its mark is 0; each line of a variable is of one of its cells, and each cell has its line.
use mathlib.Core.Path.{◌≡◌, refl, sym, ap, subst, ◌∙◌}
use mathlib.Core.Logic.{◌⊎◌, inl, inr, ⊎_elim, ◌↔◌}
use mathlib.Core.Bool.{Bool, true, false}
use mathlib.Core.Option.{none, some, none-ne-some}
use mathlib.Core.List.Memᴰ
use mathlib.Core.List.{List, [], ◌∷◌, ◌++◌, map, Memᴰ, flatten}
use Prim.Native.Nat.{ℕ, zero, suc, ◌+◌, ◌-◌, ◌<◌}
use native.Mathlib.Nat.{zero-add, add-zero}
use native.Mathlib.Omega.{arith}
use lib.IntN.{ℤ, pos, negsuc}
use lib.ListN.{length, get_or, drop, length-take, length-drop}
use lib.Seq.{get_or-take, get_or-drop}
use lib.Dec.{leb}
use Rattle.meaning.specs.Basics.{if_else}
use Rattle.meaning.specs.Limits.{max_cells}
use Rattle.meaning.specs.Numerals.{natural, decimal, printed}
use Rattle.meaning.specs.Declarations.{sum_below, cells_at, variables, channels}
use Rattle.meaning.specs.Values.{Message}
use Rattle.meaning.specs.State.{State}
use Rattle.meaning.specs.Run.{RunResult}
use Rattle.meaning.specs.Buffers.{Buffers, mark, encode}
use Rattle.meaning.specs.Printing.{Word, outcome_word, var_word, out_word, stop_word, refused_word, Line, line, numbered, cells_of, cell_lines, out_lines, stop_lines, outcome_line, end_lines, run_lines, value_bytes}
use Rattle.meaning.proofs.NumeralLaws.{natural-decimal}
use Rattle.agreement.specs.MissingClaims.{cell_at, cell_number, PrintedEmpty, VariableLines, CellsPrinted}
use Rattle.agreement.proofs.MissingMarks.{encoded-cells}

-- a list with an element is not empty
filled≢empty : (b : ℕ) (bs : List ℕ) → ¬ (b ∷ bs ≡ [])
filled≢empty b bs e = let h : suc (length bs) ≡ 0 = ap length e in omega arith

-- a printed number has at least one byte: it is read back
decimal-filled : (n : ℕ) → ¬ (decimal n ≡ [])
unfolding natural
decimal-filled n e = none-ne-some n (ap natural (sym e) ∙ natural-decimal n)

printed-filled : (z : ℤ) → ¬ (printed z ≡ [])
unfolding printed
printed-filled (pos n) e = decimal-filled n e
printed-filled (negsuc n) e = filled≢empty _ _ e

-- a printed value is empty exactly if its mark is 0
pub printed-empty : PrintedEmpty
printed-empty none = (λ e. refl, λ e. refl)
printed-empty (some z) = (λ e. absurd (printed-filled z e), λ e. absurd (omega arith))

-- ---- the lines of a list

-- words told apart by a number
word_number : Word → ℕ
word_number (outcome_word o) = 0
word_number var_word = 1
word_number out_word = 2
word_number stop_word = 3
word_number refused_word = 4

-- a line of a numbered list: its place, and the element there
pub numbered-line : (w : Word) (r i : ℕ) (vs : List Message) (l : Line) → Memᴰ l (numbered w r i vs) → (j : ℕ) × (j < length vs) × (l ≡ line w r (i + j) (get_or vs j none))
unfolding numbered
numbered-line w r i [] l m = absurd (elim m [ ])
numbered-line w r i (v ∷ vs) l (Memᴰ.head e) = (0, omega arith, e ∙ ap (λ (k : ℕ). line w r k v) (omega arith))
numbered-line w r i (v ∷ vs) l (Memᴰ.tail m) =
    let (j, h, e) = numbered-line w r (suc i) vs l m in
    (suc j, omega arith, e ∙ ap (λ (k : ℕ). line w r k (get_or vs j none)) (omega arith))

-- and each element has its line
pub line-numbered : (w : Word) (r i : ℕ) (vs : List Message) (j : ℕ) → j < length vs → Memᴰ (line w r (i + j) (get_or vs j none)) (numbered w r i vs)
unfolding numbered
line-numbered w r i [] j h = absurd (omega arith)
line-numbered w r i (v ∷ vs) zero h = Memᴰ.head (ap (λ (k : ℕ). line w r k v) (add-zero i))
line-numbered w r i (v ∷ vs) (suc j) h =
    let next : i + suc j ≡ suc i + j = omega arith in
    Memᴰ.tail (Memᴰ.cast (ap (λ (k : ℕ). line w r k (get_or vs j none)) next) (line-numbered w r (suc i) vs j (omega arith)))

module _ (f : ℕ → List Line) where
  in_some : (vs : List ℕ) (l : Line) → Memᴰ l (flatten (map f vs)) → (v : ℕ) × Memᴰ v vs × Memᴰ l (f v)
  unfolding flatten
  in_some [] l m = absurd (elim m [ ])
  in_some (v ∷ vs) l m = go (Memᴰ.append_cases (f v) m) (λ k. in_some vs l k)
    where
      go : Memᴰ l (f v) ⊎ Memᴰ l (flatten (map f vs)) → (Memᴰ l (flatten (map f vs)) → (u : ℕ) × Memᴰ u vs × Memᴰ l (f u)) → (u : ℕ) × Memᴰ u (v ∷ vs) × Memᴰ l (f u)
      go (inl h) ih = (v, Memᴰ.head refl, h)
      go (inr h) ih = let (u, k, g) = ih h in (u, Memᴰ.tail k, g)

  some_in : (vs : List ℕ) (v : ℕ) (l : Line) → Memᴰ v vs → Memᴰ l (f v) → Memᴰ l (flatten (map f vs))
  unfolding flatten
  some_in [] v l x'' h = elim x'' [ ]
  some_in (u ∷ vs) v l (Memᴰ.head e) h = Memᴰ.append_left (flatten (map f vs)) (subst (λ (x : ℕ). Memᴰ l (f x)) e h)
  some_in (u ∷ vs) v l (Memᴰ.tail m) h = Memᴰ.append_right (f u) (some_in vs v l m h)

-- ---- the lines of a run

module _ (rows : List ℤ) (cells : List Message) where
  -- a cell of a variable, by its number through the table
  cell-at : (r j : ℕ) → j < length (cells_of rows cells r) → (j < cells_at rows r) × (get_or (cells_of rows cells r) j none ≡ get_or cells (cell_number rows r j) none)
  cell-at r j h =
      let n = cells_at rows r in
      let rest = drop (sum_below (cells_at rows) r) cells in
      let k : j < n = omega (arith, length-take n rest) in
      (k, get_or-take n rest j none k ∙ get_or-drop (sum_below (cells_at rows) r) cells j none)

  -- a line of the cells
  cell-line : (l : Line) → Memᴰ l (cell_lines rows cells) → (l.at < cells_at rows l.name) × (l.value ≡ get_or cells (cell_number rows l.name l.at) none)
  unfolding cell_lines
  cell-line l m =
      let (r, k, h) = in_some (λ r. numbered var_word r 0 (cells_of rows cells r)) (variables rows) l m in
      let (j, g, e) = numbered-line var_word r 0 (cells_of rows cells r) l h in
      let (b, q) = cell-at r j g in
      rw (e, zero-add j) (b, q)

  cell-printed : (v i : ℕ) → Memᴰ v (variables rows) → i < cells_at rows v → cell_number rows v i < length cells
      → Memᴰ (line var_word v i (get_or cells (cell_number rows v i) none)) (cell_lines rows cells)
  unfolding cell_lines
  cell-printed v i m h g =
      let n = cells_at rows v in
      let k = sum_below (cells_at rows) v in
      let b : i < length (cells_of rows cells v) = omega (arith, length-take n (drop k cells), length-drop k cells) in
      some_in (λ r. numbered var_word r 0 (cells_of rows cells r)) (variables rows) v _ m
      (rw (zero-add i, (cell-at v i b).1) at (line-numbered var_word v 0 (cells_of rows cells v) i b))

-- the words of lines: of a variable, of an output, of a stop
cell-word : (rows : List ℤ) (cells : List Message) (l : Line) → Memᴰ l (cell_lines rows cells) → word_number l.what ≡ 1
unfolding cell_lines word_number
cell-word rows cells l m =
    let (r, k, h) = in_some (λ r. numbered var_word r 0 (cells_of rows cells r)) (variables rows) l m in
    let (j, g, e) = numbered-line var_word r 0 (cells_of rows cells r) l h in
    ap (λ (k : Line). word_number k.what) e

out-word : (cs : List ℕ) (xss : List (List Message)) (l : Line) → Memᴰ l (out_lines cs xss) → word_number l.what ≡ 2
unfolding out_lines word_number
out-word [] xss l m = absurd (elim m [ ])
out-word (c ∷ cs) [] l m = absurd (elim m [ ])
out-word (c ∷ cs) (xs ∷ xss) l m = go (Memᴰ.append_cases (numbered out_word c 0 xs) m) (λ k. out-word cs xss l k)
  where
    go : Memᴰ l (numbered out_word c 0 xs) ⊎ Memᴰ l (out_lines cs xss) → (Memᴰ l (out_lines cs xss) → word_number l.what ≡ 2) → word_number l.what ≡ 2
    go (inl h) ih = let (j, g, e) = numbered-line out_word c 0 xs l h in ap (λ (k : Line). word_number k.what) e
    go (inr h) ih = ih h

stop-word : (r : ℕ) (qs : List ℕ) (l : Line) → Memᴰ l (stop_lines r qs) → word_number l.what ≡ 3
unfolding stop_lines word_number
stop-word r [] l m = absurd (elim m [ ])
stop-word r (q ∷ qs) l m = go (leb 10 q) m (λ k. stop-word (suc r) qs l k)
  where
    go : (t : Bool) → Memᴰ l (if_else t (line stop_word r 0 (some (pos (q - 10))) ∷ []) [] ++ stop_lines (suc r) qs) → (Memᴰ l (stop_lines (suc r) qs) → word_number l.what ≡ 3) → word_number l.what ≡ 3
    go true (Memᴰ.head e) ih = ap (λ (k : Line). word_number k.what) e
    go true (Memᴰ.tail k) ih = ih k
    go false k ih = ih k

module _ (rows : List ℤ) (r : RunResult) where
  abbrev Variables : List Line
  Variables = cell_lines rows r.state.store.cells

  abbrev Outputs : List Line
  Outputs = out_lines (channels rows 2) r.state.store.outputs

  abbrev Stops : List Line
  Stops = stop_lines 0 r.state.states

  -- a line is the first, or of a cell, an output or a stop
  abbrev Sorted : Line → Type 0
  Sorted l = (word_number l.what ≡ 0) ⊎ (Memᴰ l Variables ⊎ (Memᴰ l Outputs ⊎ Memᴰ l Stops))

  sorted : (l : Line) → Memᴰ l (run_lines rows r) → Sorted l
  unfolding end_lines outcome_line word_number
  sorted l m = ⊎_elim front (λ k. inr (inr (inr k))) (Memᴰ.append_cases (outcome_line r.outcome r.steps ∷ Variables ++ Outputs) m)
    where
      first : Memᴰ l (outcome_line r.outcome r.steps ∷ Variables) → Sorted l
      first (Memᴰ.head e) = inl (ap (λ (k : Line). word_number k.what) e)
      first (Memᴰ.tail k) = inr (inl k)

      front : Memᴰ l (outcome_line r.outcome r.steps ∷ Variables ++ Outputs) → Sorted l
      front k = ⊎_elim first (λ j. inr (inr (inl j))) (Memᴰ.append_cases (outcome_line r.outcome r.steps ∷ Variables) k)

  -- a variable's line is a line of the cells, an output's one of the outputs
  among-cells : (l : Line) → Memᴰ l (run_lines rows r) → l.what ≡ var_word → Memᴰ l Variables
  unfolding word_number
  among-cells l m w = go (ap word_number w) (sorted l m)
    where
      go : word_number l.what ≡ 1 → Sorted l → Memᴰ l Variables
      go h (inl e) = absurd (omega arith)
      go h (inr (inl k)) = k
      go h (inr (inr (inl k))) = absurd (omega (arith, out-word (channels rows 2) r.state.store.outputs l k))
      go h (inr (inr (inr k))) = absurd (omega (arith, stop-word 0 r.state.states l k))

  pub among-outputs : (l : Line) → Memᴰ l (run_lines rows r) → l.what ≡ out_word → Memᴰ l Outputs
  unfolding word_number
  among-outputs l m w = go (ap word_number w) (sorted l m)
    where
      go : word_number l.what ≡ 2 → Sorted l → Memᴰ l Outputs
      go h (inl e) = absurd (omega arith)
      go h (inr (inl k)) = absurd (omega (arith, cell-word rows r.state.store.cells l k))
      go h (inr (inr (inl k))) = k
      go h (inr (inr (inr k))) = absurd (omega (arith, stop-word 0 r.state.states l k))

-- the mark of a cell in the lent buffers, and its printed field
empty-field : (rows : List ℤ) (s : State) (b : Buffers) (a : ℕ) → a < max_cells → (m : Message) → m ≡ cell_at s a → (value_bytes m ≡ []) ↔ (get_or (encode rows s b).marks a 0 ≡ 0)
empty-field rows s b a h m e =
    let q : get_or (encode rows s b).marks a 0 ≡ mark m = (encoded-cells rows s b a h).0 ∙ ap mark (sym e) in
    (λ k. q ∙ (printed-empty m).0 k, λ k. (printed-empty m).1 (sym q ∙ k))

-- each line of a variable is of one of its cells; its field is empty exactly if the mark is 0
pub variable-lines : VariableLines
variable-lines rows r l m w =
    let (h, e) = cell-line rows r.state.store.cells l (among-cells rows r l m w) in
    (h, e, λ b k. empty-field rows r.state b (cell_number rows l.name l.at) k l.value e)

-- each cell of a variable has its line
pub cells-printed : CellsPrinted
unfolding end_lines
cells-printed rows r v i m h g =
    Memᴰ.append_left (stop_lines 0 r.state.states)
    (Memᴰ.append_left (out_lines (channels rows 2) r.state.store.outputs) (Memᴰ.tail (cell-printed rows r.state.store.cells v i m h g)))
