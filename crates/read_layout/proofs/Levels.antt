-- The levels of a text's lines: the first is at level 0, and each is at most one level beneath the line before it.
use mathlib.Core.Path.{sym, subst}
use mathlib.Core.Logic.{⊎_elim}
use mathlib.Core.List.Memᴰ
use mathlib.Core.List.{List, [], ◌∷◌, ◌++◌, append_assoc, append-nil}
use Prim.Native.Nat.{ℕ, suc, ◌+◌, ◌≤◌, ◌<◌}
use native.Mathlib.Omega.{arith}
use lib.ListN.{length}
use Rattle.grammar.specs.Outline.{Lined, lined, Expect, Trees, Block, end, more}
use Rattle.grammar.specs.OutlineClaims.{Text}
use Rattle.grammar.proofs.LinesComplete.{Above}
use Rattle.read_layout.proofs.BlockForms.{above-next}
use Rattle.read_layout.proofs.BlockLaid.{LevelBelow, LevelsBelow}

-- the next line, if there is one, is not beneath a level
abbrev pub NotBeneath : ℕ → List Lined → Type 0
NotBeneath n [] = Unit {0}
NotBeneath n (lined l x ∷ ls) = l ≤ n

-- each line is at most one level beneath the line before it
unfoldable pub Stepped : List Lined → Type 0
Stepped [] = Unit {0}
Stepped (lined l x ∷ ls) = NotBeneath (suc l) ls × Stepped ls

block-first : {e : Expect} {l : ℕ} {ls : List Lined} {ps : Trees} → Block e l ls ps → (rest : List Lined) → Above l rest → NotBeneath l (ls ++ rest)
block-first (end {l} h) rest a = go rest a
  where
    go : (rest : List Lined) → Above l rest → NotBeneath l rest
    go [] a = tt
    go (lined i x ∷ ls) a = omega arith
block-first (more h p q) rest a = omega arith

block-stepped : {e : Expect} {l : ℕ} {ls : List Lined} {ps : Trees} → Block e l ls ps → (rest : List Lined) → Above l rest → Stepped rest → Stepped (ls ++ rest)
unfolding Stepped
block-stepped (end h) rest a s = s
block-stepped (more {e} {b} {l} {x} {ls} {ms} h p q) rest a s =
    subst (λ (zs : List Lined). NotBeneath (suc l) zs × Stepped zs) (sym (append_assoc ls ms rest))
    (block-first p (ms ++ rest) (above-next q rest a), block-stepped p (ms ++ rest) (above-next q rest a) (block-stepped q rest a s))

pub text-stepped : (ls : List Lined) (ps : Trees) → Text ls ps → NotBeneath 0 ls × Stepped ls
unfolding Stepped
text-stepped ls ps t = (subst (NotBeneath 0) (append-nil ls) (block-first t [] tt), subst Stepped (append-nil ls) (block-stepped t [] tt tt))

-- so that levels are fewer than lines
levels-few : (ls : List Lined) (n m : ℕ) → NotBeneath n ls → Stepped ls → n + length ls < m → LevelsBelow m ls
unfolding Stepped
levels-few [] n m f s h y k = absurd (Memᴰ.not-nil k)
levels-few (lined l x ∷ ls) n m f (g, s) h y k =
    ⊎_elim (λ e. subst (LevelBelow m) (sym e) (omega (arith, f, h))) (λ r. levels-few ls (suc l) m g s (omega (arith, f, h)) y r) (Memᴰ.cases_cons k)

pub text-levels : (ls : List Lined) (ps : Trees) (m : ℕ) → Text ls ps → length ls < m → LevelsBelow m ls
text-levels ls ps m t h = let (f, s) = text-stepped ls ps t in levels-few ls 0 m f s (omega (arith, h))
