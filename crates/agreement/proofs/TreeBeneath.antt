-- In an accepted table, the rows beneath a process in the tree are the process rows beneath its row, but for those of guards.
use mathlib.Core.Path.{◌≡◌, refl, sym, ap, ◌∙◌, subst}
use mathlib.Core.Logic.{◌⊎◌, inl, inr, ⊎_elim, ◌↔◌}
use mathlib.Core.Bool.{Bool, true, false, not, false≢true}
use mathlib.Core.Option.{Option, some}
use mathlib.Core.List.Memᴰ
use mathlib.Core.List.{List, [], ◌∷◌, Memᴰ}
use Prim.Native.Nat.{ℕ, ◌≤◌, ◌<◌}
use native.Mathlib.Omega.{arith}
use lib.IntN.{ℤ}
use lib.Dec.{eqb}
use borrow.Author.Tests.{eqb-true}
use Rattle.meaning.specs.Rows.{row_count, field_at, kind_at}
use Rattle.meaning.specs.Kinds.{Shape, shapes, shape_in, shape_of, expressions, processes}
use Rattle.meaning.specs.References.{Column, of-a, of-b, of_c, field_of, number_of, RefersBy, Refers, Beneath, direct, further}
use Rattle.meaning.specs.Tree.{Action, Process, node, Processes, processes_in, content_at, or_stop, rows_in, rows_beneath}
use Rattle.meaning.specs.State.{program, process_at}
use Rattle.meaning.proofs.AnswerLaws.{RightRows}
use Rattle.meaning.proofs.KindLaws.{none_left, and_then, by_shape}
use Rattle.meaning.proofs.OneTreeLaw.{refers-by}
use Rattle.agreement.specs.TreeClaims.{IsProcess, OfGuard, of-option, of_guard}
use Rattle.agreement.proofs.TableTree.{process-is, stands, SubO}
use Rattle.agreement.proofs.TableApart.{row_sub}
use Rattle.agreement.proofs.TableStarts.{is-process}
use Rattle.agreement.proofs.TableReferences.{unguarded, refers-up, once, Desc, self, down}
use Rattle.agreement.proofs.TableRows.{SoundO, rows_of, down-at, sound-at}
use Rattle.agreement.proofs.UsageReferences.{never}
use Rattle.agreement.proofs.UsageParts.{of-each}
use Rattle.agreement.proofs.TreeRows.{process-kind, of-process, up-all}

pub not-false : (t : Bool) → not t ≡ false → t ≡ true
not-false true e = refl
not-false false e = sym e

module _ (rows : List ℤ) where
  -- a reference that is a guard's goes to a row of a guard
  guarded : (q b : ℕ) (p : Column) → Refers rows q p b → unguarded (kind_at rows q) p ≡ false → OfGuard rows b
  guarded q b of-a h e = absurd (false≢true (sym e))
  guarded q b of-b h e = of_guard q (eqb-true (kind_at rows q) 43 (not-false (eqb (kind_at rows q) 43) e)) h
  guarded q b of_c h e = of-option q (eqb-true (kind_at rows q) 42 (not-false (eqb (kind_at rows q) 42) e)) h

  -- the kinds of the rows of guards
  guard-kinds : (b : ℕ) → OfGuard rows b → Memᴰ (kind_at rows b) (21 ∷ 23 ∷ 43 ∷ [])
  unfolding RefersBy shape_of shape_in shapes
  guard-kinds b (of-option q e h) =
      of-each (λ k. Memᴰ k (21 ∷ 23 ∷ 43 ∷ [])) (kind_at rows b) (23 ∷ 43 ∷ []) (refers-by rows q of_c b 42 _ e refl h).1.2
      (Memᴰ.tail (Memᴰ.head refl), (Memᴰ.tail (Memᴰ.tail (Memᴰ.head refl)), tt))
  guard-kinds b (of_guard q e h) =
      of-each (λ k. Memᴰ k (21 ∷ 23 ∷ 43 ∷ [])) (kind_at rows b) (21 ∷ 23 ∷ []) (refers-by rows q of-b b 43 _ e refl h).1.2
      (Memᴰ.head refl, (Memᴰ.tail (Memᴰ.head refl), tt))

  upper-free : (b : ℕ) → 30 ≤ kind_at rows b → kind_at rows b ≤ 42 → ¬ OfGuard rows b
  upper-free b l m g =
      of-each (λ k. 30 ≤ k → k ≤ 42 → ⊥) (kind_at rows b) (21 ∷ 23 ∷ 43 ∷ []) (guard-kinds b g)
      (λ i j. omega arith, (λ i j. omega arith, (λ i j. omega arith, tt))) l m

  -- what refers to a process or a link, and not as a guard, is a process with members or a link
  module _ (q b : ℕ) (low : 20 ≤ kind_at rows b) where
    abbrev Upper : ℕ → Type 0
    Upper k = (30 ≤ k) × (k ≤ 42)

    abbrev EachUpper : ℕ → Shape → Type 0
    EachUpper k s =
        (RefersBy rows q s.a (field_at rows q 1) b → unguarded k of-a ≡ true → Upper k)
        × (RefersBy rows q s.b (field_at rows q 2) b → unguarded k of-b ≡ true → Upper k)
        × (RefersBy rows q s.c (field_at rows q 3) b → unguarded k of_c ≡ true → Upper k)

    expression-low : Memᴰ (kind_at rows b) expressions → ⊥
    expression-low m = of-each (λ k. 20 ≤ k → ⊥) (kind_at rows b) expressions m (λ l. omega arith, (λ l. omega arith, (λ l. omega arith, (λ l. omega arith, tt)))) low

    element-low : Memᴰ (kind_at rows b) (11 ∷ []) → ⊥
    element-low m = of-each (λ k. 20 ≤ k → ⊥) (kind_at rows b) (11 ∷ []) m (λ l. omega arith, tt) low

    each-upper : (k : ℕ) (s : Shape) → shape_of k ≡ some s → EachUpper k s
    unfolding shapes RefersBy
    each-upper =
        by_shape EachUpper
        (and_then (never, never, never)
        (and_then (never, never, never)
        (and_then (never, never, never)
        (and_then (never, λ h u. absurd (expression-low h.1.2), never)
        (and_then (never, λ h u. absurd (expression-low h.1.2), never)
        (and_then (never, λ h u. absurd (expression-low h.1.2), λ h u. absurd (expression-low h.1.2))
        (and_then (never, never, never)
        (and_then (never, never, never)
        (and_then (never, λ h u. absurd (expression-low h.1.2), λ h u. absurd (expression-low h.1.2))
        (and_then (never, λ h u. absurd (expression-low h.1.2), λ h u. absurd (element-low h.1.2))
        (and_then (never, λ h u. absurd (expression-low h.1.2), λ h u. absurd (expression-low h.1.2))
        (and_then (λ h u. (omega arith, omega arith), never, never)
        (and_then (λ h u. (omega arith, omega arith), never, never)
        (and_then (λ h u. (omega arith, omega arith), never, never)
        (and_then (λ h u. (omega arith, omega arith), λ h u. (omega arith, omega arith), never)
        (and_then (λ h u. (omega arith, omega arith), never, never)
        (and_then (never, λ h u. (omega arith, omega arith), never)
        (and_then (λ h u. (omega arith, omega arith), λ h u. (omega arith, omega arith), never)
        (and_then (λ h u. (omega arith, omega arith), λ h u. (omega arith, omega arith), λ h u. (omega arith, omega arith))
        (and_then (λ h u. (omega arith, omega arith), λ h u. (omega arith, omega arith), λ h u. absurd (false≢true u))
        (and_then (λ h u. absurd (expression-low h.1.2), λ h u. absurd (false≢true u), never)
        none_left)))))))))))))))))))))

    pub upper : (p : Column) → Refers rows q p b → unguarded (kind_at rows q) p ≡ true → Upper (kind_at rows q)
    unfolding Refers
    upper p h u = go (kind_at rows q) h.0 p (each-upper (kind_at rows q) h.0 h.1) h.2 u
      where
        go : (k : ℕ) (s : Shape) (p : Column) → EachUpper k s → RefersBy rows q (field_of s p) (number_of rows q p) b → unguarded k p ≡ true → Upper k
        go k s of-a f = f.0
        go k s of-b f = f.1
        go k s of_c f = f.2

  -- so a row beneath that is a process or a link and not of a guard is reached by no guard
  module _ (A : RightRows rows) where
    reached : {r b : ℕ} → Beneath rows r b → 20 ≤ kind_at rows b → ¬ OfGuard rows b → Desc rows A r b
    reached {r} {b} (direct p g) l n = go (unguarded (kind_at rows r) p) refl
      where
        go : (t : Bool) → unguarded (kind_at rows r) p ≡ t → Desc rows A r b
        go true e = down p self g e
        go false e = absurd (n (guarded r b p g e))
    reached {r} (further {s} {t = b} p w g) l n = go (unguarded (kind_at rows s) p) refl (reached w)
      where
        go : (t : Bool) → unguarded (kind_at rows s) p ≡ t → (20 ≤ kind_at rows s → ¬ OfGuard rows s → Desc rows A r s) → Desc rows A r b
        go true e f = let u = upper s b l p g e in down p (f (omega (arith, u.0)) (upper-free s u.0 u.1)) g e
        go false e f = absurd (n (guarded s b p g e))

    -- and what is reached by no guard is the row itself, or beneath it and not of a guard
    unguarded-row : (q b : ℕ) (p : Column) → Refers rows q p b → unguarded (kind_at rows q) p ≡ true → ¬ OfGuard rows b
    unguarded-row q b p h u (of-option o e g) =
        let (f, i) = once rows A q o b p of_c h g in
        false≢true (sym (ap (λ (k : ℕ). unguarded k of_c) e) ∙ sym (λ j. unguarded (kind_at rows (f j)) (i j)) ∙ u)
    unguarded-row q b p h u (of_guard o e g) =
        let (f, i) = once rows A q o b p of-b h g in
        false≢true (sym (ap (λ (k : ℕ). unguarded k of-b) e) ∙ sym (λ j. unguarded (kind_at rows (f j)) (i j)) ∙ u)

    desc-cases : {r b : ℕ} → Desc rows A r b → (b ≡ r) ⊎ (Beneath rows r b × (¬ OfGuard rows b))
    desc-cases self = inl refl
    desc-cases {r} (down {y} {x} p h g u) = inr (below (desc-cases h), unguarded-row y x p g u)
      where
        below : (y ≡ r) ⊎ (Beneath rows r y × (¬ OfGuard rows y)) → Beneath rows r x
        below (inl e) = direct p (subst (λ (q : ℕ). Refers rows q p x) e g)
        below (inr w) = further p w.0 g

    pub beneath-up : {r b : ℕ} → Beneath rows r b → (r < b) × (b < row_count rows)
    beneath-up {r} {b} (direct p g) = refers-up rows A r b p g
    beneath-up {r} (further {s} {t = b} p w g) = let l = beneath-up w in let u = refers-up rows A s b p g in (omega arith, u.1)

    pub process-low : (b : ℕ) → IsProcess rows b → 20 ≤ kind_at rows b
    process-low b m =
        of-each (λ k. 20 ≤ k) (kind_at rows b) processes m
        (omega arith, (omega arith, (omega arith, (omega arith, (omega arith, (omega arith, (omega arith, (omega arith, (omega arith, (omega arith, (omega arith, tt)))))))))))

    pub process-high : (b : ℕ) → IsProcess rows b → kind_at rows b < 40
    process-high b m =
        of-each (λ k. k < 40) (kind_at rows b) processes m
        (omega arith, (omega arith, (omega arith, (omega arith, (omega arith, (omega arith, (omega arith, (omega arith, (omega arith, (omega arith, (omega arith, tt)))))))))))

    -- a row in the process of row r is a process
    pub process-in : (r b : ℕ) (p : Process) → (content_at rows r).process ≡ some p → Memᴰ b (rows_in p) → (b < row_count rows) × IsProcess rows b
    process-in r b p e m =
        let (k, ms, h) = row_sub p b m in
        process-kind rows A b (node k b ms) (stands rows r k b ms (subst (SubO k b ms) (sym e) h))

    module _ (r : ℕ) (l : r < row_count rows) (m : IsProcess rows r) where
      abbrev Reached : ℕ → Type 0
      Reached b = Beneath rows r b × IsProcess rows b × (¬ OfGuard rows b)

      into : (b : ℕ) → Reached b → Memᴰ b (rows_of (content_at rows r).process)
      into b h =
          let (k, ms, e) = is-process rows b (beneath-up h.0).1 h.1 in
          of-process rows A b r r l m (up-all rows A b (reached h.0 (process-low b h.1) h.2) (inl (subst (λ (o : Option Process). Memᴰ b (rows_of o)) (sym e) (Memᴰ.head refl))))

      -- by the process that stands there
      module _ (k : Action) (ms : Processes) (e : (content_at rows r).process ≡ some (node k r ms)) where
        beneath-to : (b : ℕ) → Memᴰ b (rows_beneath ms) → Reached b
        beneath-to b i =
            let n = Memᴰ.tail i in
            go (desc-cases (down-at rows A r b (subst (λ (o : Option Process). Memᴰ b (rows_of o)) (sym e) n)))
          where
            go : (b ≡ r) ⊎ (Beneath rows r b × (¬ OfGuard rows b)) → Reached b
            go (inl f) = absurd ((subst (λ (o : Option Process). SoundO o (row_count rows)) e (sound-at rows A r)).1 (subst (λ (x : ℕ). Memᴰ x (rows_beneath ms)) f i))
            go (inr w) = (w.0, (process-in r b (node k r ms) e (Memᴰ.tail i)).1, w.1)

        beneath-from : (b : ℕ) → Reached b → Memᴰ b (rows_beneath ms)
        beneath-from b h =
            ⊎_elim (λ f. absurd (let u = (beneath-up h.0).0 in omega arith)) (λ i. i)
            (Memᴰ.cases_cons (subst (λ (o : Option Process). Memᴰ b (rows_of o)) e (into b h)))

        process-there : process_at (program rows) r ≡ node k r ms
        process-there = process-is rows r ∙ ap or_stop e

        beneath-is : (b : ℕ) → Memᴰ b (rows_beneath (processes_in (process_at (program rows) r))) ↔ Reached b
        beneath-is b = rw process-there (beneath-to b, beneath-from b)

      pub beneath-rows : (b : ℕ) → Memᴰ b (rows_beneath (processes_in (process_at (program rows) r))) ↔ Reached b
      beneath-rows = let (k, ms, e) = is-process rows r l m in beneath-is k ms e
