-- Where the lines beneath a line and after it go, told from its kind and the rows that it makes itself.
use mathlib.Core.Path.{◌≡◌, refl, sym, ap, ap₂, subst, ◌∙◌}
use mathlib.Core.Bool.{Bool, true, false, false≢true}
use mathlib.Core.List.{List}
use mathlib.Core.Option.{Option, none, some, none-ne-some}
use Prim.Native.Nat.{ℕ, suc, ◌+◌, ◌-◌, ◌≤◌}
use native.Mathlib.Omega.{arith}
use lib.Dec.{eqb, leb}
use Rattle.meaning.specs.Basics.{if_else}
use Rattle.base_top_down.specs.Forms.{absent, form_size}
use Rattle.grammar.specs.Grammar.{Token}
use Rattle.grammar.specs.Outline.{variable, channel, source, sink, OutlineLine, declare, skip, stop, assign, input, output, seq, par, ifs, alts, while, test, guarded, allowed, Expect, members, choices, options, nothing, one-process, one-member, heads, process_beneath, is_declaration, starts_block, expected_beneath, expected_after}
use Rattle.grammar.specs.Lines.{Spells}
use Rattle.grammar.specs.Classes.{class_of}
use Rattle.grammar.specs.TextRows.{process_form}
use Rattle.read_classes.specs.ClassNumbers.{number_of}
use Rattle.read_levels.specs.Kinds.{expect_number}
use Rattle.read_counts.specs.OwnRows.{part_rows, own_rows, Fits}
use Rattle.read_counts.proofs.OwnSizes.{line-size}
use Rattle.read_layout.specs.Layout.{process_size, row_beneath, row_after}
use Rattle.read_layout.proofs.LinePut.{starts-declares}
use Rattle.read_layout.proofs.BlockRoom.{declaration-none}
use Rattle.read_sizes.proofs.MeasuredLaws.{class-starts}
use Rattle.read_processes.specs.Onwards.{part_rows_at, onward_to, onward_of}

-- no more than the line makes itself
pub part-less : (n own : ℕ) → part_rows_at n own ≤ own
part-less n own = go (eqb n 5)
  where
    go : (t : Bool) → if_else t (own - 1) own ≤ own
    go true = omega arith
    go false = omega arith

-- a declaration is told by its class
pub class-declares : (x : OutlineLine) → leb (number_of (class_of x)) 2 ≡ is_declaration x
class-declares (declare (variable z n)) = refl
class-declares (declare (channel z n)) = refl
class-declares (declare (source n)) = refl
class-declares (declare (sink z n)) = refl
class-declares skip = refl
class-declares stop = refl
class-declares (assign a e) = refl
class-declares (input c a) = refl
class-declares (output c e) = refl
class-declares seq = refl
class-declares par = refl
class-declares ifs = refl
class-declares alts = refl
class-declares (while e) = refl
class-declares (test e) = refl
class-declares (guarded e c a) = refl
class-declares (allowed e) = refl

-- a process is no declaration, and nothing may stand for what is expected beneath it
process-told : (x : OutlineLine) (b : Expect) → process_beneath x ≡ some b → (is_declaration x ≡ false) × Fits b absent
unfolding form_size
process-told x b q = (go x b q, subst (λ (o : Option Expect). FitsIn o) q (fits x))
  where
    FitsIn : Option Expect → Type 0
    FitsIn none = Unit {0}
    FitsIn (some b) = Fits b absent

    go : (x : OutlineLine) (b : Expect) → process_beneath x ≡ some b → is_declaration x ≡ false
    go (declare d) b q = absurd (none-ne-some b q)
    go skip b q = refl
    go stop b q = refl
    go (assign a e) b q = refl
    go (input c a) b q = refl
    go (output c e) b q = refl
    go seq b q = refl
    go par b q = refl
    go ifs b q = refl
    go alts b q = refl
    go (while e) b q = refl
    go (test e) b q = refl
    go (guarded e c a) b q = refl
    go (allowed e) b q = refl

    fits : (x : OutlineLine) → FitsIn (process_beneath x)
    fits (declare d) = tt
    fits skip = refl
    fits stop = refl
    fits (assign a e) = refl
    fits (input c a) = refl
    fits (output c e) = refl
    fits seq = tt
    fits par = tt
    fits ifs = tt
    fits alts = tt
    fits (while e) = tt
    fits (test e) = tt
    fits (guarded e c a) = tt
    fits (allowed e) = tt

module _ (names : List (List ℕ)) {ts : List Token} (x : OutlineLine) (w : Spells ts x) where
  -- the rows of a process are those that its line makes
  process-rows : (b : Expect) → process_beneath x ≡ some b → process_size names x ≡ part_rows x
  unfolding expected_beneath expected_after form_size
  process-rows b q =
      let (d, f) = process-told x b q in
      let beneath : expected_beneath heads x ≡ some b = rw d q in
      let nothing-after : Fits (expected_after heads x) absent = rw d refl in
      let z = line-size names heads b ts x absent absent w beneath f nothing-after in
      let s : form_size (process_form names x absent) ≡ 0 + part_rows x + 0 + 0 = rw d at z in
      omega (arith, s)

  -- a declaration makes no such rows
  in_members : (t : Bool) (b : Expect) (p k : ℕ) → starts_block x ≡ t → if_else t (some nothing) (process_beneath x) ≡ some b
      → if_else t (onward_to (p + 1) (p + 2)) (onward_to (p + own_rows members x) (p + own_rows members x + k)) ≡ onward_to (suc p + process_size names x) (if_else t (suc (suc p)) (suc p + process_size names x + k))
  in_members true b p k s q = let z = declaration-none names x (starts-declares x s) in ap₂ onward_to (omega (arith, z)) (omega arith)
  in_members false b p k s q =
      let z = process-rows b q in
      let d : own_rows members x ≡ 1 + part_rows x = rw (process-told x b q).0 refl in
      ap₂ onward_to (omega (arith, z, d)) (omega (arith, z, d))

  in-member : (t : Bool) (b : Expect) (p k : ℕ) → starts_block x ≡ t → if_else t (some nothing) (process_beneath x) ≡ some b
      → if_else t (onward_to p (p + 1)) (onward_to (p + (own_rows one-member x - 1)) (p + (own_rows one-member x - 1) + k)) ≡ onward_to (p + process_size names x) (if_else t (suc p) (p + process_size names x + k))
  in-member true b p k s q = let z = declaration-none names x (starts-declares x s) in ap₂ onward_to (omega (arith, z)) (omega arith)
  in-member false b p k s q =
      let z = process-rows b q in
      let d : own_rows one-member x ≡ 1 + part_rows x = rw (process-told x b q).0 refl in
      ap₂ onward_to (omega (arith, z, d)) (omega (arith, z, d))

  in-process : (t : Bool) (b : Expect) (p k : ℕ) → starts_block x ≡ t → if_else t (some nothing) (process_beneath x) ≡ some b
      → if_else t (onward_to p (p + 1)) (onward_to (p + own_rows one-process x) (p + own_rows one-process x + k)) ≡ onward_to (p + process_size names x) (if_else t (suc p) (p + process_size names x + k))
  in-process true b p k s q = let z = declaration-none names x (starts-declares x s) in ap₂ onward_to (omega (arith, z)) (omega arith)
  in-process false b p k s q =
      let z = process-rows b q in
      let d : own_rows one-process x ≡ 0 + part_rows x = rw (process-told x b q).0 refl in
      ap₂ onward_to (omega (arith, z, d)) (omega (arith, z, d))

  in-heads : (t : Bool) (b : Expect) (p k : ℕ) → is_declaration x ≡ t → if_else t (some nothing) (process_beneath x) ≡ some b
      → if_else t (onward_to p p) (if_else (starts_block x) (onward_to p (p + 1)) (onward_to (p + own_rows heads x) (p + own_rows heads x + k))) ≡ onward_to (p + process_size names x) (if_else t p (p + process_size names x + k))
  in-heads true b p k s q = let z = declaration-none names x s in ap₂ onward_to (omega (arith, z)) refl
  in-heads false b p k s q =
      let z = process-rows b q in
      let d : own_rows heads x ≡ 0 + part_rows x = rw s refl in
      go (starts_block x) refl (omega (arith, z, d))
    where
      go : (t : Bool) → starts_block x ≡ t → p + own_rows heads x ≡ p + process_size names x
          → if_else t (onward_to p (p + 1)) (onward_to (p + own_rows heads x) (p + own_rows heads x + k)) ≡ onward_to (p + process_size names x) (p + process_size names x + k)
      go true u v = absurd (false≢true (sym s ∙ starts-declares x u))
      go false u v = ap (λ (c : ℕ). onward_to c (c + k)) v

  pub onward-told : (e b : Expect) (p k : ℕ) → expected_beneath e x ≡ some b
      → onward_of (expect_number e) (number_of (class_of x)) (own_rows e x) p k ≡ onward_to (row_beneath names e x p) (row_after names e x p k)
  unfolding expected_beneath
  onward-told members b p k q = rw (class-starts x) (in_members (starts_block x) b p k refl q)
  onward-told choices b p k q = ap₂ onward_to (omega arith) (omega arith)
  onward-told options b p k q = ap₂ onward_to (omega arith) (omega arith)
  onward-told nothing b p k q = absurd (none-ne-some b q)
  onward-told one-process b p k q = rw (class-starts x) (in-process (starts_block x) b p k refl q)
  onward-told one-member b p k q = rw (class-starts x) (in-member (starts_block x) b p k refl q)
  onward-told heads b p k q = rw (class-declares x, class-starts x) (in-heads (is_declaration x) b p k refl q)
