-- Lines that are one process are accepted, and their trees are those that are built from the last line to the first.
use mathlib.Core.Path.{◌≡◌, refl, sym, ap, ◌∙◌}
use mathlib.Core.Bool.{true, false}
use mathlib.Core.List.{List, [], ◌∷◌, ◌++◌, append_assoc, append-nil}
use mathlib.Core.Option.{Option, some}
use Prim.Native.Nat.{ℕ, suc, ◌<◌}
use native.Mathlib.Omega.{arith}
use borrow.Author.Tests.{eq-eqb, ne_eqb, lt-ltb, le-ltb}
use lib.ListN.{length}
use lib.Dec.{eqb}
use Rattle.grammar.specs.Outline.{OutlineLine, Lined, lined, Expect, expected_beneath, expected_after, may_end, node, Trees, empty, also, Block, end, more, Levels, place, accept, accept_line, accept_all, all_end, levels_ended, whole_text, grown}
use Rattle.grammar.specs.OutlineClaims.{LinesComplete}

-- the next line, if there is one, is above a level
abbrev pub Above : ℕ → List Lined → Type 0
Above l [] = Unit {0}
Above l (lined i x ∷ ls) = i < l

pub above-next : {e : Expect} {l : ℕ} {ms : List Lined} {qs : Trees} → Block e l ms qs → (rest : List Lined) → Above l rest → Above (suc l) (ms ++ rest)
above-next (end {l} h) rest a = higher rest a
  where
    higher : (rest : List Lined) → Above l rest → Above (suc l) rest
    higher [] a = tt
    higher (lined i x ∷ ls) a = omega arith
above-next (more h b c) rest a = omega arith

-- a level that may end is left at the next line above it
leave : (e : Expect) (k : Levels) (rest : List Lined) → may_end e ≡ true → Above (length k) rest → levels_ended (accept_all (some (e ∷ k)) rest) ≡ levels_ended (accept_all (some k) rest)
unfolding accept_all accept_line accept levels_ended all_end
leave e k [] h a = rw h refl
leave e k (lined i x ∷ rest) h a =
    let n : eqb (length k) i ≡ false = ne_eqb (length k) i (omega arith) in
    ap (λ (o : Option Levels). levels_ended (accept_all o rest)) (rw (n, h) refl)

accepts : (e b : Expect) (l : ℕ) (x : OutlineLine) (k : Levels) → expected_beneath e x ≡ some b → length k ≡ l → accept (e ∷ k) l x ≡ some (b ∷ expected_after e x ∷ k)
unfolding accept place
accepts e b l x k h n = rw (eq-eqb (length k) l n, h) refl

reads : {e : Expect} {l : ℕ} {ls : List Lined} {ps : Trees} → Block e l ls ps → (k : Levels) → length k ≡ l → (rest : List Lined) → Above l rest
    → levels_ended (accept_all (some (e ∷ k)) (ls ++ rest)) ≡ levels_ended (accept_all (some k) rest)
unfolding accept_all accept_line
reads (end {e} h) k n rest a = leave e k rest h (rw n a)
reads (more {e} {b} {l} {x} {ls} {ms} h p q) k n rest a =
    ap (λ (o : Option Levels). levels_ended (accept_all o ((ls ++ ms) ++ rest))) (accepts e b l x k h n)
    ∙ ap (λ (ys : List Lined). levels_ended (accept_all (some (b ∷ expected_after e x ∷ k)) ys)) (append_assoc ls ms rest)
    ∙ reads p (expected_after e x ∷ k) (ap suc n) (ms ++ rest) (above-next q rest a)
    ∙ reads q k n rest a

none_left : (i : ℕ) (rest : List Lined) → Above i rest → grown rest i ≡ empty
unfolding grown
none_left i [] a = refl
none_left i (lined j x ∷ rest) a = rw (le-ltb i j (omega arith), ne_eqb i j (omega arith)) refl

grown-here : (l : ℕ) (x : OutlineLine) (ls : List Lined) → grown (lined l x ∷ ls) l ≡ also (node x (grown ls (suc l))) (grown ls l)
unfolding grown
grown-here l x ls = rw (le-ltb l l (omega arith), eq-eqb l l refl) refl

grown-above : (i l : ℕ) (x : OutlineLine) (ls : List Lined) → i < l → grown (lined l x ∷ ls) i ≡ grown ls i
unfolding grown
grown-above i l x ls h = rw (lt-ltb i l h) refl

grows : {e : Expect} {l : ℕ} {ls : List Lined} {ps : Trees} → Block e l ls ps → (rest : List Lined) → Above l rest
    → (grown (ls ++ rest) l ≡ ps) × ((i : ℕ) → i < l → grown (ls ++ rest) i ≡ grown rest i)
grows (end {l} h) rest a = (none_left l rest a, λ i c. refl)
grows (more {l} {x} {ls} {ms} {ps} {qs} h p q) rest a =
    let (f, g) = grows p (ms ++ rest) (above-next q rest a) in
    let (u, v) = grows q rest a in (
      rw (append_assoc ls ms rest, grown-here l x (ls ++ (ms ++ rest)), f, g l (omega arith), u) refl,
      λ i c. rw (append_assoc ls ms rest, grown-above i l x (ls ++ (ms ++ rest)) c, g i (omega arith)) (v i c),
    )

pub lines-complete : LinesComplete
unfolding whole_text accept_all levels_ended all_end
lines-complete ls ps p = (rw append-nil at (reads p [] refl [] tt), sym (rw append-nil at (grows p [] tt).0))
