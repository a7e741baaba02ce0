-- Lines after lines: of the messages of a list, of messages by their marks and numbers, and of stopped rows.
use mathlib.Core.Path.{◌≡◌, refl, sym, ap, ap₂, ◌∙◌}
use mathlib.Core.Bool.{Bool}
use mathlib.Core.List.{List, [], ◌∷◌, ◌++◌, map, append-nil, flatten}
use mathlib.Core.Option.{Option, none, some}
use Prim.Native.Nat.{ℕ, zero, suc, ◌+◌, ◌-◌, ◌≤◌, ◌<◌}
use native.Mathlib.Numerals.{add-one}
use native.Mathlib.Omega.{arith}
use lib.IntN.{ℤ, pos}
use lib.ListN.{length, get_or, take, drop, drop_of_length-le}
use lib.Seq.{drop-cons, drop-nil}
use lib.Dec.{leb}
use Rattle.meaning.specs.Basics.{if_else}
use borrow.Author.Tests.{eq-eqb, ne_eqb, le-leb, lt-leb}
use Rattle.meaning.specs.Printing.{Word, Line, line, numbered, stop_word, stop_lines, word_bytes, value_bytes, line_bytes}
use Rattle.meaning.specs.Values.{Message}
use Rattle.meaning.specs.Buffers.{cell_of, decoded}
use Rattle.base_numbers.specs.declared.Text.{Text}
use Rattle.base_numbers.specs.Printing.{text_of}
use Rattle.write_bytes.specs.Writing.{Writer, put_all, put_lines, shown, line_of}
use Rattle.write_lines.specs.Decoding.{message_bytes}
use Rattle.write_bytes.proofs.Writers.{shown-text, put_all-append, put_lines-append, put_lines-none, put_lines-one}

-- a line whose value is a text
pub one_line : (w : Word) (r i : ℕ) (v : Option ℤ) {t : Text} → t ≡ text_of (value_bytes v) → (x : Writer) → put_all (line_of (word_bytes w) r i (shown t)) x ≡ put_lines (line w r i v ∷ []) x
unfolding line_bytes
one_line w r i v e x = ap (λ (l : List ℕ). put_all (line_of (word_bytes w) r i l) x) (shown-text (value_bytes v) e) ∙ sym (put_lines-one (line w r i v) x)

-- The messages of a list ----------------------------------------------------------------------------------------------------------

module _ (word : List ℕ) (r : ℕ) (xs : List Message) (i : ℕ) (x : Writer) where
  pub message-next : (v : Message) → drop i xs ≡ v ∷ drop (suc i) xs → put_all (message_bytes word r i (drop i xs)) x ≡ put_all (message_bytes word r (i + 1) (drop (i + 1) xs)) (put_all (line_of word r i (value_bytes v)) x)
  unfolding message_bytes
  message-next v e =
      ap (λ (l : List Message). put_all (message_bytes word r i l) x) e
      ∙ put_all-append (line_of word r i (value_bytes v)) (message_bytes word r (suc i) (drop (suc i) xs)) x
      ∙ ap (λ (k : ℕ). put_all (message_bytes word r k (drop k xs)) (put_all (line_of word r i (value_bytes v)) x)) (sym (add-one i))

  pub messages-done : drop i xs ≡ [] → put_all (message_bytes word r i (drop i xs)) x ≡ x
  unfolding message_bytes put_all
  messages-done e = ap (λ (l : List Message). put_all (message_bytes word r i l) x) e

-- behind the bytes of a word they are its lines
bytes-lines : (w : Word) (r i : ℕ) (xs : List Message) → message_bytes (word_bytes w) r i xs ≡ flatten (map line_bytes (numbered w r i xs))
unfolding message_bytes numbered line_bytes flatten
bytes-lines w r i [] = refl
bytes-lines w r i (v ∷ xs) = ap {B = List ℕ} (λ l. line_of (word_bytes w) r i (value_bytes v) ++ l) (bytes-lines w r (suc i) xs)

pub messages-lined : (w : Word) (r : ℕ) (xs : List Message) (x : Writer) → put_all (message_bytes (word_bytes w) r 0 xs) x ≡ put_lines (numbered w r 0 xs) x
unfolding put_lines
messages-lined w r xs x = ap (λ (l : List ℕ). put_all l x) (bytes-lines w r 0 xs)

-- Messages by marks and numbers ---------------------------------------------------------------------------------------------------

pub cell-unset : (m : ℕ) (z : ℤ) → m ≡ 0 → cell_of z m ≡ none
cell-unset m z h = ap (λ (t : Bool). if_else t none (some z)) (eq-eqb m 0 h)

pub cell_set : (m : ℕ) (z : ℤ) → (m ≡ 0 → ⊥) → cell_of z m ≡ some z
cell_set m z h = ap (λ (t : Bool). if_else t none (some z)) (ne_eqb m 0 h)

pub cells-next : (ms : List ℕ) (zs : List ℤ) (i : ℕ) → i < length ms → i < length zs → drop i (decoded zs ms) ≡ cell_of (get_or zs i (pos 0)) (get_or ms i 0) ∷ drop (suc i) (decoded zs ms)
cells-next (m ∷ ms) [] i h k = elim k [ ]
cells-next [] zs i h k = elim h [ ]
cells-next (m ∷ ms) (z ∷ zs) zero h k = refl
cells-next (m ∷ ms) (z ∷ zs) (suc i) h k = cells-next ms zs i (omega arith) (omega arith)

pub cells-done : (ms : List ℕ) (zs : List ℤ) (i : ℕ) → length ms ≤ i → drop i (decoded zs ms) ≡ []
cells-done ms [] i h = drop-nil i
cells-done [] (z ∷ zs) i h = drop-nil i
cells-done (m ∷ ms) (z ∷ zs) zero h = absurd (omega arith)
cells-done (m ∷ ms) (z ∷ zs) (suc i) h = cells-done ms zs i (omega arith)

pub cells_out : (ms : List ℕ) (zs : List ℤ) (i : ℕ) → length zs ≤ i → drop i (decoded zs ms) ≡ []
cells_out ms [] i h = drop-nil i
cells_out [] (z ∷ zs) i h = drop-nil i
cells_out (m ∷ ms) (z ∷ zs) zero h = absurd (omega arith)
cells_out (m ∷ ms) (z ∷ zs) (suc i) h = cells_out ms zs i (omega arith)

-- a part of the marks and of the numbers gives the part of the cells
cells-take : (ms : List ℕ) (zs : List ℤ) (n : ℕ) → decoded (take n zs) (take n ms) ≡ take n (decoded zs ms)
cells-take ms zs zero = refl
cells-take ms [] (suc n) = refl
cells-take [] (z ∷ zs) (suc n) = refl
cells-take (m ∷ ms) (z ∷ zs) (suc n) = ap {B = List (Option ℤ)} (λ l. cell_of z m ∷ l) (cells-take ms zs n)

cells-without : (zs : List ℤ) → decoded zs [] ≡ []
cells-without [] = refl
cells-without (z ∷ zs) = refl

cells-drop : (ms : List ℕ) (zs : List ℤ) (n : ℕ) → decoded (drop n zs) (drop n ms) ≡ drop n (decoded zs ms)
cells-drop ms zs zero = refl
cells-drop ms [] (suc n) = refl
cells-drop [] (z ∷ zs) (suc n) = cells-without (drop n zs)
cells-drop (m ∷ ms) (z ∷ zs) (suc n) = cells-drop ms zs n

pub cells-part : (ms : List ℕ) (zs : List ℤ) (from size : ℕ) → decoded (take size (drop from zs)) (take size (drop from ms)) ≡ take size (drop from (decoded zs ms))
cells-part ms zs from size = cells-take (drop from ms) (drop from zs) size ∙ ap (take size) (cells-drop ms zs from)

-- Stopped rows --------------------------------------------------------------------------------------------------------------------

pub stop-none : (r q : ℕ) → q < 10 → stop_lines r (q ∷ []) ≡ []
unfolding stop_lines
stop-none r q h = ap (λ (t : Bool). if_else t (line stop_word r 0 (some (pos (q - 10))) ∷ []) [] ++ []) (lt-leb 10 q h)

pub stop-one : (r q : ℕ) → 10 ≤ q → stop_lines r (q ∷ []) ≡ line stop_word r 0 (some (pos (q - 10))) ∷ []
unfolding stop_lines
stop-one r q h = ap (λ (t : Bool). if_else t (line stop_word r 0 (some (pos (q - 10))) ∷ []) [] ++ []) (le-leb 10 q h)

module _ (qs : List ℕ) (i : ℕ) (x : Writer) where
  pub stops-next : i < length qs → put_lines (stop_lines i (drop i qs)) x ≡ put_lines (stop_lines (i + 1) (drop (i + 1) qs)) (put_lines (stop_lines i (get_or qs i 0 ∷ [])) x)
  unfolding stop_lines
  stops-next h =
      let q = get_or qs i 0 in
      let own = if_else (leb 10 q) (line stop_word i 0 (some (pos (q - 10))) ∷ []) [] in
      ap (λ (l : List ℕ). put_lines (stop_lines i l) x) (drop-cons qs i 0 h)
      ∙ put_lines-append own (stop_lines (suc i) (drop (suc i) qs)) x
      ∙ ap₂ (λ (k : ℕ) (l : List Line). put_lines (stop_lines k (drop k qs)) (put_lines l x)) (sym (add-one i)) (sym (append-nil own))

  pub stops-done : length qs ≤ i → put_lines (stop_lines i (drop i qs)) x ≡ x
  unfolding stop_lines
  stops-done h = ap (λ (l : List ℕ). put_lines (stop_lines i l) x) (drop_of_length-le qs h) ∙ put_lines-none x
