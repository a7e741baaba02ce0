-- The cells that numbers and set marks stand for: what stands at a place, what a change of both changes, and that a value follows from what stands at each place.
use mathlib.Core.Path.{◌≡◌, refl, sym, ap, ap₂, ◌∙◌}
use mathlib.Core.Option.{none, some}
use mathlib.Core.List.{List, [], ◌∷◌}
use Prim.Native.Nat.{ℕ, zero, suc, ◌+◌, ◌<◌, ◌≤◌}
use native.Mathlib.Omega.{arith}
use lib.IntN.{ℤ, pos}
use lib.ListN.{length, get_or, set, replicate, length-replicate}
use lib.Seq.{set_out, paste}
use Rattle.std.proofs.lemmas.List.Edits.{paste_none, fill_from_more}
use Rattle.std.proofs.lemmas.Slice.{put_mid-paste}
use borrow.Rule.Slice.PartMut.{put_mid}
use Rattle.std.specs.Prelude.{Some, None}
use Rattle.meaning.specs.declared.Value.{Value}
use Rattle.meaning.specs.declared.Index.{Index}
use Rattle.meaning.specs.declared.Index.TheVariants.{At, Fails}
use Rattle.meaning.specs.Buffers.{mark, number_in, cell_of, decoded}
use Rattle.meaning.proofs.LentLaws.{cell-back}
use Rattle.meaning.specs.Tree.{Expr, literal, element, monadic, given, dyadic, no_expr}
use Rattle.meaning.specs.Basics.{is_some}
use Rattle.meaning.specs.Values.{Message, truth, monadic_of, when_number, dyadic_of, in_array, cell_value, read_cell, given_value, value, index, gives, cell_sent, value_sent, passed}
use Rattle.run_values.specs.declared.store.State.{State}
use Rattle.run_values.specs.Sending.{CodeMessage, message_in, coded}
use Rattle.run_values.specs.Cells.{state_cells, with_cell, with_unset}

-- a change of number i and mark i changes cell i alone
pub decoded-set : (xs : List ℤ) (ms : List ℕ) (i : ℕ) (x : ℤ) (m : ℕ) → decoded (set xs i x) (set ms i m) ≡ set (decoded xs ms) i (cell_of x m)
decoded-set [] ms i x m = refl
decoded-set (y ∷ xs) [] zero x m = refl
decoded-set (y ∷ xs) [] (suc i) x m = refl
decoded-set (y ∷ xs) (n ∷ ms) zero x m = refl
decoded-set (y ∷ xs) (n ∷ ms) (suc i) x m = ap (λ (l : List Message). cell_of y n ∷ l) (decoded-set xs ms i x m)

-- as the lent buffers hold a cell, so it is decoded
pub decoded-held : (xs : List ℤ) (ms : List ℕ) (i : ℕ) (c : Message) → decoded (set xs i (number_in c)) (set ms i (mark c)) ≡ set (decoded xs ms) i c
decoded-held xs ms i c = decoded-set xs ms i (number_in c) (mark c) ∙ ap (set (decoded xs ms) i) (cell-back c)

-- the cells of a state that was changed
pub cells-with : (s : State) (i : ℕ) (c : Message) → state_cells (with_cell s i c) ≡ set (state_cells s) i c
cells-with s i c = decoded-held s.values s.marks i c

-- past the last cell nothing changes
pub unchanged-past : (s : State) (i : ℕ) (c : Message) → length s.values ≤ i → length s.marks ≤ i → s ≡ with_cell s i c
unchanged-past s i c h k = rw (set_out s.values i (number_in c) h, set_out s.marks i (mark c) k)

-- one cell more becomes unset
pub unset-next : (a n : ℕ) (s : State) → with_unset a (suc n) s ≡ with_cell (with_unset a n s) (a + n) none
unset-next a zero s = let e : a + 0 ≡ a = omega arith in ap (λ (i : ℕ). with_cell s i none) (sym e)
unset-next a (suc n) s =
    let e : suc a + n ≡ a + suc n = omega arith in
    unset-next (suc a) n (with_cell s a none) ∙ ap (λ (i : ℕ). with_cell (with_unset (suc a) n (with_cell s a none)) i none) e

-- the state whose arrays are filled with 0, n places from a on
abbrev filled : ℕ → ℕ → State → State
filled a n s = record { values = paste s.values a (replicate n (pos 0)) n; marks = paste s.marks a (replicate n 0) n; places = s.places }

filled-next : (a n : ℕ) (s : State) → a + n < length s.values → a + n < length s.marks → with_cell (filled a n s) (a + n) none ≡ filled a (n + 1) s
filled-next a n s v m =
    ap₂ (λ (x : List ℤ) (y : List ℕ). let t : State = record { values = x; marks = y; places = s.places } in t) (fill_from_more s.values a n (pos 0) v) (fill_from_more s.marks a n 0 m)

filled-unset : (a n : ℕ) (s : State) → a + n ≤ length s.values → a + n ≤ length s.marks → filled a n s ≡ with_unset a n s
filled-unset a zero s v m =
    ap₂ (λ (x : List ℤ) (y : List ℕ). let t : State = record { values = x; marks = y; places = s.places } in t) (sym (paste_none s.values a (replicate 0 (pos 0)))) (sym (paste_none s.marks a (replicate 0 0)))
filled-unset a (suc n) s v m =
    let q : suc n ≡ n + 1 = omega arith in
    ap (λ (k : ℕ). filled a k s) q
    ∙ sym (filled-next a n s (omega arith) (omega arith))
    ∙ ap (λ (t : State). with_cell t (a + n) none) (filled-unset a n s (omega arith) (omega arith))
    ∙ sym (unset-next a n s)

-- so a state's cells are unset by a write of n zeros into each array
pub written-unset : (a n k : ℕ) (s : State) (xs : List ℤ) (ms : List ℕ) → n ≡ k → a + n ≤ length s.values → a + n ≤ length s.marks → xs ≡ replicate n (pos 0) → ms ≡ replicate n 0
    → record { values = put_mid a k s.values xs; marks = put_mid a k s.marks ms; places = s.places } ≡ with_unset a n s
written-unset a n k s xs ms q v m e f =
    ap₂ (λ (x : List ℤ) (y : List ℕ). let t : State = record { values = x; marks = y; places = s.places } in t)
    (put_mid-paste a k s.values xs (replicate n (pos 0)) n e q (sym (length-replicate n (pos 0))))
    (put_mid-paste a k s.marks ms (replicate n 0) n f q (sym (length-replicate {A = ℕ} n 0)))
    ∙ filled-unset a n s v m

-- the code's form of a message is of that message
pub message-back : (m : Message) → message_in (coded m) ≡ m
message-back none = refl
message-back (some x) = refl

pub coded-back : (m : CodeMessage) → coded (message_in m) ≡ m
coded-back None = refl
coded-back (Some x) = refl

-- a value follows from what stands at each place
module _ (cs ds : List Message) (same : (i : ℕ) → get_or cs i none ≡ get_or ds i none) where
  pub same-cell : (i : Index) → read_cell cs i ≡ read_cell ds i
  same-cell (At n) = ap cell_value (same n)
  same-cell (Fails k) = refl

  same-given : (i : Index) → given_value cs i ≡ given_value ds i
  same-given (At n) = ap (λ (m : Message). truth (is_some m)) (same n)
  same-given (Fails k) = refl

  pub same-value : (e : Expr) → value cs e ≡ value ds e
  unfolding value
  same-value (literal x) = refl
  same-value (element v e) =
      same-cell (in_array v.first v.size (value cs e)) ∙ ap (λ (w : Value). read_cell ds (in_array v.first v.size w)) (same-value e)
  same-value (monadic op e) = ap (λ (w : Value). when_number w (monadic_of op)) (same-value e)
  same-value (given v e) =
      same-given (in_array v.first v.size (value cs e)) ∙ ap (λ (w : Value). given_value ds (in_array v.first v.size w)) (same-value e)
  same-value (dyadic op e f) = ap₂ (dyadic_of op) (same-value e) (same-value f)
  same-value no_expr = refl

  -- so does what an output passes
  same_sent : (i : Index) → cell_sent cs i ≡ cell_sent ds i
  same_sent (At n) = ap gives (same n)
  same_sent (Fails k) = refl

  pub same-passed : (e : Expr) → passed cs e ≡ passed ds e
  unfolding passed index
  same-passed (literal x) = ap value_sent (same-value (literal x))
  same-passed (element v e) = same_sent (in_array v.first v.size (value cs e)) ∙ ap (λ (w : Value). cell_sent ds (in_array v.first v.size w)) (same-value e)
  same-passed (monadic op e) = ap value_sent (same-value (monadic op e))
  same-passed (given v e) = ap value_sent (same-value (given v e))
  same-passed (dyadic op e f) = ap value_sent (same-value (dyadic op e f))
  same-passed no_expr = ap value_sent (same-value no_expr)
