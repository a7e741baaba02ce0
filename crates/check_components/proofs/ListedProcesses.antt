-- The members that a row lists: the processes that stand at the rows of its links, in order. A process stands at its own row, and lists nothing.
use mathlib.Core.Path.{◌≡◌, refl, sym, ap, ◌∙◌, subst}
use mathlib.Core.Bool.{Bool, true, false, false≢true}
use mathlib.Core.List.Memᴰ
use mathlib.Core.List.{List, [], ◌∷◌, Memᴰ}
use mathlib.Core.Option.{Option, none, some, none-ne-some}
use Prim.Native.Nat.{ℕ, zero, suc, ◌-◌, ◌<◌, ◌≤◌}
use native.Mathlib.Decide.{dec_lt}
use native.Mathlib.Omega.{arith}
use lib.IntN.{ℤ}
use Rattle.meaning.specs.Basics.{is_some, any_passes, among}
use Rattle.meaning.specs.Rows.{row_count, field_at, natural_at, kind_at}
use Rattle.meaning.specs.Kinds.{processes}
use Rattle.meaning.specs.Tree.{Process, Processes, empty, also, and_process, row_of, Content, content_of, content_at, process_rows}
use Rattle.meaning.proofs.Decides.{Decides, holding}
use Rattle.meaning.proofs.ReferenceCounts.{decides-among}
use Rattle.base_layout.specs.Operands.{operand_at}
use Rattle.base_layout.proofs.RowNodes.{node_of}
use Rattle.base_layout.proofs.Parts.{part-past, higher_content, operand-higher}
use Rattle.base_layout.proofs.RowKinds.{each-kind, by_kind}
use Rattle.check_components.specs.Fields.{is_link}
use Rattle.check_components.proofs.Links.{link-below, link-members, no-members}

-- a process and what is listed, in the content of row r
abbrev Own : ℕ → Option Process → Processes → Type 0
Own r none ms = Unit {0}
Own r (some p) ms = (row_of p ≡ r) × (ms ≡ empty)

module _ (rows : List ℤ) where
  module _ (r : ℕ) (h : r < row_count rows) where
    -- a process stands at a row exactly if the row's kind is one of a process
    pub process-there : is_some (content_at rows r).process ≡ among (kind_at rows r) processes
    unfolding any_passes
    process-there = go _ refl (decides-among (kind_at rows r) processes)
      where
        found : ℕ → Bool
        found k = is_some (content_of rows r (higher_content rows r) (node_of k (field_at rows r 1) (natural_at rows r 1) (natural_at rows r 2) (natural_at rows r 3))).process

        other : among (kind_at rows r) processes ≡ false → (k : ℕ) → among k processes ≡ true → kind_at rows r ≡ k → ⊥
        other e k f q = false≢true (sym e ∙ ap (λ (n : ℕ). among n processes) q ∙ f)

        go : (t : Bool) → among (kind_at rows r) processes ≡ t → Decides (Memᴰ (kind_at rows r) processes) t → is_some (content_at rows r).process ≡ t
        go true e (holding m) = by_kind rows r h (λ p. is_some p.process ≡ true) (Memᴰ.eq_of_replicate 11 (Memᴰ.map found m))
        go false e d =
            by_kind rows r h (λ p. is_some p.process ≡ false)
            (each-kind (λ x. is_some (content_of rows r (higher_content rows r) x).process ≡ false) (kind_at rows r) (field_at rows r 1) (natural_at rows r 1) (natural_at rows r 2) (natural_at rows r 3)
            (λ q. refl) (λ q. refl) (λ q. refl) (λ q. refl) (λ q. absurd (other e 20 refl q)) (λ q. absurd (other e 21 refl q)) (λ q. absurd (other e 22 refl q)) (λ q. absurd (other e 23 refl q)) (λ q. absurd (other e 24 refl q))
            (λ q. absurd (other e 30 refl q)) (λ q. absurd (other e 31 refl q)) (λ q. absurd (other e 32 refl q)) (λ q. absurd (other e 33 refl q)) (λ q. absurd (other e 34 refl q)) (λ q. absurd (other e 35 refl q))
            (λ q. refl) (λ q. refl) (λ q. refl) (λ q. refl) refl)

    own : Own r (content_at rows r).process (content_at rows r).listed
    own =
        by_kind rows r h (λ p. Own r p.process p.listed)
        (each-kind (λ x. Own r (content_of rows r (higher_content rows r) x).process (content_of rows r (higher_content rows r) x).listed) (kind_at rows r) (field_at rows r 1) (natural_at rows r 1) (natural_at rows r 2) (natural_at rows r 3)
        (λ q. tt) (λ q. tt) (λ q. tt) (λ q. tt) (λ q. (refl, refl)) (λ q. (refl, refl)) (λ q. (refl, refl)) (λ q. (refl, refl)) (λ q. (refl, refl))
        (λ q. (refl, refl)) (λ q. (refl, refl)) (λ q. (refl, refl)) (λ q. (refl, refl)) (λ q. (refl, refl)) (λ q. (refl, refl)) (λ q. tt) (λ q. tt) (λ q. tt) (λ q. tt) tt)

  -- what stands at a row, if it is a process
  pub record Stands (p : Process) : Type 0 where
    pub below : row_of p < row_count rows
    pub there : (content_at rows (row_of p)).process ≡ some p
    pub alone : (content_at rows (row_of p)).listed ≡ empty

  pub stands : (r : ℕ) (p : Process) → (content_at rows r).process ≡ some p → (row_of p ≡ r) × Stands p
  stands r p e = go (dec_lt r (row_count rows))
    where
      at-row : row_of p ≡ r → (content_at rows r).listed ≡ empty → r < row_count rows → Stands p
      at-row i f h = record { below = rw i h; there = rw i e; alone = rw i f }

      go : Dec (r < row_count rows) → (row_of p ≡ r) × Stands p
      go (yes h) = let w : (row_of p ≡ r) × ((content_at rows r).listed ≡ empty) = subst (λ (o : Option Process). Own r o (content_at rows r).listed) e (own r h) in (w.0, at-row w.0 w.1 h)
      go (no h) = absurd (none-ne-some p (sym (ap (λ (x : Content). x.process) (part-past rows r (omega arith))) ∙ e))

  pub process-below : (r : ℕ) → is_some (content_at rows r).process ≡ true → r < row_count rows
  process-below r e = go (content_at rows r).process refl e
    where
      go : (o : Option Process) → (content_at rows r).process ≡ o → is_some o ≡ true → r < row_count rows
      go none i t = absurd (false≢true t)
      go (some p) i t = let w = stands r p i in omega (arith, w.0, w.1.below)

  -- the members that a link lists: its own, if a process stands there, and those of the next link
  module _ (at : ℕ) (link : is_link rows at ≡ true) {p q : ℕ} (first : p ≡ operand_at rows at 1) (next : q ≡ operand_at rows at 2) where
    pub member-there : is_some (content_at rows p).process ≡ true → process_rows (content_at rows at).listed ≡ p ∷ process_rows (content_at rows q).listed
    member-there e = ap process_rows (link-members rows at link first next) ∙ go (content_at rows p).process refl e
      where
        go : (o : Option Process) → (content_at rows p).process ≡ o → is_some o ≡ true → process_rows (and_process o (content_at rows q).listed) ≡ p ∷ process_rows (content_at rows q).listed
        go none i t = absurd (false≢true t)
        go (some x) i t = ap (λ (r : ℕ). r ∷ process_rows (content_at rows q).listed) (stands p x i).0

    pub member-missing : is_some (content_at rows p).process ≡ false → process_rows (content_at rows at).listed ≡ process_rows (content_at rows q).listed
    member-missing e = ap process_rows (link-members rows at link first next) ∙ go (content_at rows p).process e
      where
        go : (o : Option Process) → is_some o ≡ false → process_rows (and_process o (content_at rows q).listed) ≡ process_rows (content_at rows q).listed
        go none t = refl
        go (some x) t = absurd (false≢true (sym t))

  pub no-link-rows : (at : ℕ) → is_link rows at ≡ false → process_rows (content_at rows at).listed ≡ []
  no-link-rows at e = ap process_rows (no-members rows at e)

  -- each member stands at its row
  abbrev pub AllStand : Processes → Type 0
  AllStand empty = Unit {0}
  AllStand (also p ms) = Stands p × AllStand ms

  pub listed-stand : (r : ℕ) → AllStand (content_at rows r).listed
  listed-stand r = from_end (row_count rows - r) r (omega arith)
    where
      with-member : (r : ℕ) (o : Option Process) (ms : Processes) → (content_at rows r).process ≡ o → AllStand ms → AllStand (and_process o ms)
      with-member r none ms e h = h
      with-member r (some p) ms e h = ((stands r p e).1, h)

      at-row : (r : ℕ) (t : Bool) → is_link rows r ≡ t → ((b : ℕ) → r < row_count rows → r < b → AllStand (content_at rows b).listed) → AllStand (content_at rows r).listed
      at-row r true e f =
          let b = operand_at rows r 2 in
          let a = operand_at rows r 1 in
          subst AllStand (sym (link-members rows r e refl refl)) (with-member a (content_at rows a).process (content_at rows b).listed refl (f b (link-below rows r e) (operand-higher rows r 2 (link-below rows r e))))
      at-row r false e f = subst AllStand (sym (no-members rows r e)) tt

      from_end : (k r : ℕ) → row_count rows - r ≤ k → AllStand (content_at rows r).listed
      from_end zero r l = at-row r (is_link rows r) refl (λ b h g. absurd (omega arith))
      from_end (suc k) r l = at-row r (is_link rows r) refl (λ b h g. from_end k b (omega arith))
