-- In an accepted table, the rows of what stands at a row hold those of what stands at each row that it refers to, but for guards.
use mathlib.Core.Path.{◌≡◌, refl, sym, ap, ◌∙◌, subst}
use mathlib.Core.Logic.{◌⊎◌, inl, inr, ⊎_elim}
use mathlib.Core.Bool.{true, false≢true}
use mathlib.Core.Option.{Option, none, some, none-ne-some}
use mathlib.Core.List.Memᴰ
use mathlib.Core.List.{List, [], ◌∷◌, Memᴰ}
use Prim.Native.Nat.{ℕ, ◌<◌}
use native.Mathlib.Decide.{dec_lt}
use native.Mathlib.Omega.{arith}
use lib.IntN.{ℤ, pos}
use Rattle.meaning.specs.Rows.{natural_of, row_count, field_at, natural_at, kind_at}
use Rattle.meaning.specs.Basics.{any_passes}
use Rattle.meaning.specs.Kinds.{Shape, shapes, shape_of, expressions, processes}
use Rattle.meaning.specs.Nodes.{node_at}
use Rattle.meaning.specs.References.{Column, of-a, of-b, of_c, field_of, number_of, IsTarget, RefersBy, Refers}
use Rattle.meaning.specs.Faults.{WellFormed}
use Rattle.meaning.specs.Tree.{Process, Processes, empty, Content, and_process, content_of, content_at, rows_in, rows_beneath}
use Rattle.meaning.proofs.AnswerLaws.{RightRows}
use Rattle.meaning.proofs.KindLaws.{none_left, and_then, by_shape}
use Rattle.meaning.proofs.PartLaws.{part-unfolds}
use Rattle.meaning.proofs.UnsetLaws.{among-mem}
use Rattle.agreement.specs.TreeClaims.{IsProcess}
use Rattle.agreement.proofs.TableReferences.{unguarded, few-rows, refers-up, Desc, self, down}
use Rattle.agreement.proofs.TableRows.{rows_of}
use Rattle.agreement.proofs.UsageRows.{Fits, fits, node-of-kind}
use Rattle.agreement.proofs.UsageReferences.{never}
use Rattle.agreement.proofs.UsageParts.{OfEach, part_by, part-is, part-by-kind}

-- a row is among those of a part: of its process, or of its members
abbrev In : ℕ → Content → Type 0
In x p = Memᴰ x (rows_of p.process) ⊎ Memᴰ x (rows_beneath p.listed)

-- a process before members holds the rows of both
first-in : (x : ℕ) (o : Option Process) (ms : Processes) → Memᴰ x (rows_of o) → Memᴰ x (rows_beneath (and_process o ms))
first-in x none ms m = absurd (Memᴰ.not-nil m)
first-in x (some p) ms m = Memᴰ.append_left (rows_beneath ms) m

later-in : (x : ℕ) (o : Option Process) (ms : Processes) → Memᴰ x (rows_beneath ms) → Memᴰ x (rows_beneath (and_process o ms))
later-in x none ms m = m
later-in x (some p) ms m = Memᴰ.append_right (rows_in p) m

module _ (rows : List ℤ) (A : RightRows rows) where
  each_fits : (r : ℕ) → r < row_count rows → Fits rows r (node_at rows r)
  each_fits = fits rows (few-rows rows A) A.1 A.2

  by_kind : (P : Content → Type 0) (c : ℕ) (kinds : List ℕ) → c < row_count rows → Memᴰ (kind_at rows c) kinds → OfEach (λ k. P (part_by rows c k)) kinds → P (content_at rows c)
  by_kind P c kinds l m h = part-by-kind rows P c l (each_fits c l) kinds m h

  -- where a process stands, the row is of the kind of one
  pub process-kind : (r : ℕ) (p : Process) → (content_at rows r).process ≡ some p → (r < row_count rows) × IsProcess rows r
  unfolding WellFormed shapes any_passes
  process-kind r p e = go (dec_lt r (row_count rows))
    where
      Kind : ℕ → Shape → Type 0
      Kind k s = (part_by rows r k).process ≡ some p → Memᴰ k processes

      other : (k : ℕ) → none ≡ some p → Memᴰ k processes
      other k h = absurd (none-ne-some p h)

      each : (k : ℕ) (s : Shape) → shape_of k ≡ some s → Kind k s
      each =
          by_shape Kind
          (and_then (other 1)
          (and_then (other 2)
          (and_then (other 10)
          (and_then (other 11)
          (and_then (other 12)
          (and_then (other 13)
          (and_then (λ h. among-mem 20 processes refl)
          (and_then (λ h. among-mem 21 processes refl)
          (and_then (λ h. among-mem 22 processes refl)
          (and_then (λ h. among-mem 23 processes refl)
          (and_then (λ h. among-mem 24 processes refl)
          (and_then (λ h. among-mem 30 processes refl)
          (and_then (λ h. among-mem 31 processes refl)
          (and_then (λ h. among-mem 32 processes refl)
          (and_then (λ h. among-mem 33 processes refl)
          (and_then (λ h. among-mem 34 processes refl)
          (and_then (λ h. among-mem 35 processes refl)
          (and_then (other 40)
          (and_then (other 41)
          (and_then (other 42)
          (and_then (other 43)
          none_left)))))))))))))))))))))

      go : Dec (r < row_count rows) → (r < row_count rows) × IsProcess rows r
      go (no l) = absurd (none-ne-some p (sym (ap (λ (x : Content). x.process) ((part-unfolds rows r).1 (omega arith))) ∙ e))
      go (yes l) =
          let w = (A.1 r l).1 in (
            l,
            each (kind_at rows r) w.0 w.1
                (sym (ap (λ (x : Content). x.process) (part-is rows r l (each_fits r l) ∙ ap (content_of rows r (content_at rows)) (node-of-kind rows r (kind_at rows r) refl))) ∙ e),
          )

  -- by the kind of what is referred to: an expression has no rows, a process those of the process, a link those of its members
  module _ (x q c : ℕ) where
    no_rows : Memᴰ x [] ⊎ Memᴰ x [] → ⊥
    no_rows = ⊎_elim Memᴰ.not-nil Memᴰ.not-nil

    of-expression : IsTarget rows q expressions c → In x (content_at rows c) → ⊥
    of-expression t = by_kind (λ y. In x y → ⊥) c expressions t.1 t.2 (no_rows, (no_rows, (no_rows, (no_rows, tt))))

    of-element : IsTarget rows q (11 ∷ []) c → In x (content_at rows c) → ⊥
    of-element t = by_kind (λ y. In x y → ⊥) c (11 ∷ []) t.1 t.2 (no_rows, tt)

    alone : {l : List ℕ} → Memᴰ x l ⊎ Memᴰ x [] → Memᴰ x l
    alone = ⊎_elim (λ m. m) (λ m. absurd (Memᴰ.not-nil m))

    pub of-process : c < row_count rows → IsProcess rows c → In x (content_at rows c) → Memᴰ x (rows_of (content_at rows c).process)
    of-process l m =
        by_kind (λ y. In x y → Memᴰ x (rows_of y.process)) c processes l m
        (alone, (alone, (alone, (alone, (alone, (alone, (alone, (alone, (alone, (alone, (alone, tt)))))))))))

    linked : {l : List ℕ} → Memᴰ x [] ⊎ Memᴰ x l → Memᴰ x l
    linked = ⊎_elim (λ m. absurd (Memᴰ.not-nil m)) (λ m. m)

    of_members : IsTarget rows q (40 ∷ []) c → In x (content_at rows c) → Memᴰ x (rows_beneath (content_at rows c).listed)
    of_members t = by_kind (λ y. In x y → Memᴰ x (rows_beneath y.listed)) c (40 ∷ []) t.1 t.2 (linked, tt)

    of-choices : IsTarget rows q (41 ∷ []) c → In x (content_at rows c) → Memᴰ x (rows_beneath (content_at rows c).listed)
    of-choices t = by_kind (λ y. In x y → Memᴰ x (rows_beneath y.listed)) c (41 ∷ []) t.1 t.2 (linked, tt)

    of-options : IsTarget rows q (42 ∷ []) c → In x (content_at rows c) → Memᴰ x (rows_beneath (content_at rows c).listed)
    of-options t = by_kind (λ y. In x y → Memᴰ x (rows_beneath y.listed)) c (42 ∷ []) t.1 t.2 (linked, tt)

    -- what a field of row q refers to has its rows in row q as kind k
    abbrev Up : ℕ → Column → Type 0
    Up k p = unguarded k p ≡ true → In x (content_at rows c) → In x (part_by rows q k)

    abbrev EachUp : ℕ → Shape → Type 0
    EachUp k s =
        (RefersBy rows q s.a (field_at rows q 1) c → Up k of-a)
        × (RefersBy rows q s.b (field_at rows q 2) c → Up k of-b)
        × (RefersBy rows q s.c (field_at rows q 3) c → Up k of_c)

    -- the row that a field holds
    held : (P : ℕ → Type 0) (z : ℤ) → z ≡ pos c → P c → P (natural_of z)
    held P z e = subst P (sym (ap natural_of e))

    members-up : (z : ℤ) → z ≡ pos c → Memᴰ x (rows_beneath (content_at rows c).listed) → Memᴰ x (rows_beneath (content_at rows (natural_of z)).listed)
    members-up z e = held (λ b. Memᴰ x (rows_beneath (content_at rows b).listed)) z e

    process-up : (z : ℤ) → z ≡ pos c → Memᴰ x (rows_of (content_at rows c).process) → Memᴰ x (rows_of (content_at rows (natural_of z)).process)
    process-up z e = held (λ b. Memᴰ x (rows_of (content_at rows b).process)) z e

    each-up : (k : ℕ) (s : Shape) → shape_of k ≡ some s → EachUp k s
    unfolding shapes RefersBy
    each-up =
        let za = field_at rows q 1 in
        let zb = field_at rows q 2 in
        let a = content_at rows (natural_at rows q 1) in
        let b = content_at rows (natural_at rows q 2) in
        by_shape EachUp
        (and_then (never, never, never)
        (and_then (never, never, never)
        (and_then (never, never, never)
        (and_then (never, λ h u i. absurd (of-expression h.1 i), never)
        (and_then (never, λ h u i. absurd (of-expression h.1 i), never)
        (and_then (never, λ h u i. absurd (of-expression h.1 i), λ h u i. absurd (of-expression h.1 i))
        (and_then (never, never, never)
        (and_then (never, never, never)
        (and_then (never, λ h u i. absurd (of-expression h.1 i), λ h u i. absurd (of-expression h.1 i))
        (and_then (never, λ h u i. absurd (of-expression h.1 i), λ h u i. absurd (of-element h.1 i))
        (and_then (never, λ h u i. absurd (of-expression h.1 i), λ h u i. absurd (of-expression h.1 i))
        (and_then (λ h u i. inl (Memᴰ.tail (members-up za h.0 (of_members h.1 i))), never, never)
        (and_then (λ h u i. inl (Memᴰ.tail (members-up za h.0 (of_members h.1 i))), never, never)
        (and_then (λ h u i. inl (Memᴰ.tail (members-up za h.0 (of-choices h.1 i))), never, never)
        (and_then (λ h u i. absurd (of-expression h.1 i), λ h u i. inl (Memᴰ.tail (first-in x b.process empty (process-up zb h.0 (of-process h.1.1 h.1.2 i)))), never)
        (and_then (λ h u i. inl (Memᴰ.tail (members-up za h.0 (of-options h.1 i))), never, never)
        (and_then (never, λ h u i. inl (Memᴰ.tail (first-in x b.process empty (process-up zb h.0 (of-process h.1.1 h.1.2 i)))), never)
        (and_then (λ h u i. inr (first-in x a.process b.listed (process-up za h.0 (of-process h.1.1 h.1.2 i))), λ h u i. inr (later-in x a.process b.listed (members-up zb h.0 (of_members h.1 i))), never)
        (and_then (λ h u i. inr (first-in x a.process b.listed (process-up za h.0 (of-process h.1.1 h.1.2 i))), λ h u i. inr (later-in x a.process b.listed (members-up zb h.0 (of-choices h.1 i))), λ h u i. absurd (of-expression h.1 i))
        (and_then (λ h u i. inr (first-in x a.process b.listed (process-up za h.0 (of-process h.1.1 h.1.2 i))), λ h u i. inr (later-in x a.process b.listed (members-up zb h.0 (of-options h.1 i))), λ h u i. absurd (false≢true u))
        (and_then (λ h u i. absurd (of-expression h.1 i), λ h u i. absurd (false≢true u), never)
        none_left)))))))))))))))))))))

    up : (p : Column) → Refers rows q p c → unguarded (kind_at rows q) p ≡ true → In x (content_at rows c) → In x (content_at rows q)
    unfolding Refers
    up p h u i =
        let l = refers-up rows A q c p h in
        let k : q < row_count rows = omega arith in
        subst (In x) (sym (part-is rows q k (each_fits q k) ∙ ap (content_of rows q (content_at rows)) (node-of-kind rows q (kind_at rows q) refl)))
        (go (kind_at rows q) h.0 p (each-up (kind_at rows q) h.0 h.1) h.2 u i)
      where
        go : (k : ℕ) (s : Shape) (p : Column) → EachUp k s → RefersBy rows q (field_of s p) (number_of rows q p) c → Up k p
        go k s of-a f = f.0
        go k s of-b f = f.1
        go k s of_c f = f.2

  -- so along every way that goes by no guard
  pub up-all : (x : ℕ) {r c : ℕ} → Desc rows A r c → In x (content_at rows c) → In x (content_at rows r)
  up-all x self i = i
  up-all x (down {y} {x = c} p h g u) i = up-all x h (up x y c p g u i)
