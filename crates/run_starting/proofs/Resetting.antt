-- Rows reset one process after another, as the code goes.
use mathlib.Core.Path.{◌≡◌, refl, sym, ap, ◌∙◌}
use mathlib.Core.Option.{Option, none, some, some-ne-none}
use mathlib.Core.List.{List}
use Prim.Native.Nat.{ℕ, zero, suc, ◌-◌, ◌<◌}
use native.Mathlib.Omega.{arith}
use native.Mathlib.Decide.{dec_lt}
use lib.IntN.{ℤ}
use lib.ListN.{get_or, set}
use Rattle.meaning.specs.declared.Node.{Node}
use Rattle.meaning.specs.Rows.{row_count, kind_at}
use Rattle.meaning.specs.Tree.{Action, stop, skip, Process, node, Processes, empty, also, Content, content_of, content_at, or_stop}
use Rattle.meaning.specs.Settle.{Mode, in_turn, together, by_step, mode}
use Rattle.meaning.specs.State.{program, process_at, state_of}
use Rattle.base_layout.proofs.Parts.{higher_content, part-past, part-of-kind}
use Rattle.machine.specs.Upward.{reset_by, reset, reset_members, reset_started}
use Rattle.machine.proofs.Parents.{own_row}
use Rattle.machine.proofs.Resets.{reset-idle, reset-other, reset-none, reset-also, started_none, started-idle, started-other}
use Rattle.run_parents.specs.declared.shape.Mode as code
use Rattle.run_parents.specs.Members.{mode_of, only_process}
use Rattle.run_parents.proofs.KindCases.{kind-cases}
use Rattle.run_code.specs.Prepared.{Prepared, place_at}
use Rattle.run_starting.specs.Parts.{IsProcess}
use Rattle.run_starting.proofs.Standing.{EndingIn, SingleIn, LinkIn, kind-place}
use Rattle.run_starting.proofs.Starting.{process-there}

-- a process as the only member
every_one : (p : Process) (s : List ℕ) → reset_members (also p empty) s ≡ reset p s
every_one p s = reset-also p empty s ∙ reset-none (reset p s)

started-one : (p : Process) (s : List ℕ) → reset_started (also p empty) s ≡ reset p s
started-one p s = go (state_of s p) refl
  where
    go : (n : ℕ) → state_of s p ≡ n → reset_started (also p empty) s ≡ reset p s
    go zero z = started-idle p empty s z ∙ started_none s ∙ sym (reset-idle p s z)
    go (suc n) z = started-other p empty s (λ u. omega arith)

-- by mode
only_one : (m : Mode) (p : Process) (s : List ℕ) → reset_by m (reset_members (also p empty)) (reset_started (also p empty)) s ≡ reset p s
only_one in_turn p s = every_one p s
only_one together p s = every_one p s
only_one by_step p s = started-one p s

-- no member, by mode
no_more : (m : Mode) (s : List ℕ) → reset_by m (reset_members empty) (reset_started empty) s ≡ s
no_more in_turn s = reset-none s
no_more together s = reset-none s
no_more by_step s = started_none s

-- where no member stands
module _ (s : List ℕ) {ms : Processes} (e : ms ≡ empty) where
  pub none-reset : s ≡ reset_members ms s
  none-reset = rw e (sym (reset-none s))

  pub none-started : s ≡ reset_started ms s
  none-started = rw e (sym (started_none s))

module _ (rows : List ℤ) (r : ℕ) (s : List ℕ) where
  -- an idle row
  pub idle-resets : get_or s r 0 ≡ 0 → IsProcess rows r → s ≡ reset (process_at (program rows) r) s
  idle-resets z (p, e) = rw (process-there rows r e) (sym (reset-idle p s (ap (λ (y : ℕ). get_or s y 0) (own_row rows r p e) ∙ z)))

  module _ (z : get_or s r 0 ≡ 0 → ⊥) where
    other : (k : Action) (ms : Processes) → reset (node k r ms) s ≡ reset_by (mode k) (reset_members ms) (reset_started ms) (set s r 0)
    other k ms = reset-other k r ms s (get_or s r 0 - 1) (omega arith)

    -- a SEQ, PAR, IF or ALT
    pub ending-resets : {m : code.Mode} {f : ℕ} {u : List ℕ} → EndingIn rows r m f → u ≡ reset_by (mode_of m) (reset_members (content_at rows f).listed) (reset_started (content_at rows f).listed) (set s r 0)
        → u ≡ reset (process_at (program rows) r) s
    ending-resets {f = f} h i = rw (process-there rows r h.process-is, other h.action (content_at rows f).listed, h.mode-is) i

    -- a WHILE or a block
    pub single-resets : {b : ℕ} {u : List ℕ} → SingleIn rows r b → u ≡ reset (process_at (program rows) b) (set s r 0) → u ≡ reset (process_at (program rows) r) s
    single-resets {b} h i =
        let (p, e) = h.member_is in
        let w = process-there rows r (h.process-is ∙ ap (λ (o : Option Process). some (node h.action r (only_process o))) e) in
        i ∙ ap (λ (q : Process). reset q (set s r 0)) (process-there rows b e) ∙ sym (ap (λ (q : Process). reset q s) w ∙ other h.action (also p empty) ∙ only_one (mode h.action) p (set s r 0))

    -- any other process has no member
    module _ {list : List ℕ} (P : Prepared rows list) {n : ℕ} (e : n ≡ place_at list r 0) where
      abbrev Alone : Content → Type 0
      Alone c = (p : Process) → c.process ≡ some p → set s r 0 ≡ reset (or_stop c.process) s

      no-process : {A : Type 0} (p : Process) → none ≡ some p → A
      no-process p e = absurd (some-ne-none p (sym e))

      alone : (k : Action) → set s r 0 ≡ reset (node k r empty) s
      alone k = sym (other k empty ∙ no_more (mode k) (set s r 0))

      pub itself-resets : (n ≡ 30 → ⊥) → (n ≡ 31 → ⊥) → (n ≡ 32 → ⊥) → (n ≡ 33 → ⊥) → (n ≡ 34 → ⊥) → (n ≡ 35 → ⊥) → IsProcess rows r → set s r 0 ≡ reset (process_at (program rows) r) s
      itself-resets n30 n31 n32 n33 n34 n35 (p, i) = go (dec_lt r (row_count rows))
        where
          of : {c : Content} → content_at rows r ≡ c → Alone c → set s r 0 ≡ reset (process_at (program rows) r) s
          of w h = let v = ap (λ (c : Content). c.process) w in h p (sym v ∙ i) ∙ ap (λ (q : Process). reset q s) (sym (process-there rows r v))

          go : Dec (r < row_count rows) → set s r 0 ≡ reset (process_at (program rows) r) s
          go (no l) = of (part-past rows r (omega arith)) no-process
          go (yes l) =
              of (part-of-kind rows r (kind_at rows r) l refl)
              (kind-cases (λ (m : Node). Alone (content_of rows r (higher_content rows r) m)) (kind_at rows r) _ _ _ _
              (λ i. no-process) (λ i. no-process) (λ i. no-process) (λ i. no-process) (λ i q j. alone stop) (λ i q j. alone skip) (λ i q j. alone _) (λ i q j. alone _) (λ i q j. alone _)
              (λ i. absurd (n30 (e ∙ kind-place P r 30 l i))) (λ i. absurd (n31 (e ∙ kind-place P r 31 l i))) (λ i. absurd (n32 (e ∙ kind-place P r 32 l i))) (λ i. absurd (n33 (e ∙ kind-place P r 33 l i)))
              (λ i. absurd (n34 (e ∙ kind-place P r 34 l i))) (λ i. absurd (n35 (e ∙ kind-place P r 35 l i))) (λ i. no-process) (λ i. no-process) (λ i. no-process) (λ i. no-process) no-process)

  -- ---- link r

  pub link-resets : {p q : ℕ} {t u : List ℕ} → LinkIn rows r p q → t ≡ reset (process_at (program rows) p) s → u ≡ reset_members (content_at rows q).listed t → u ≡ reset_members (content_at rows r).listed s
  link-resets {p} {q} h e i =
      i ∙ ap (reset_members (content_at rows q).listed) (e ∙ ap (λ (z : Process). reset z s) (process-there rows p h.member_is))
      ∙ sym (ap (λ (ms : Processes). reset_members ms s) h.members-are ∙ reset-also h.member (content_at rows q).listed s)

  module _ {p q : ℕ} (h : LinkIn rows r p q) where
    member-row : state_of s h.member ≡ get_or s p 0
    member-row = ap (λ (y : ℕ). get_or s y 0) (own_row rows p h.member h.member_is)

    -- its member is idle, or it is not
    pub link-passes : {u : List ℕ} → get_or s p 0 ≡ 0 → u ≡ reset_started (content_at rows q).listed s → u ≡ reset_started (content_at rows r).listed s
    link-passes z i = rw (h.members-are, started-idle h.member (content_at rows q).listed s (member-row ∙ z)) i

    pub link-stops : {u : List ℕ} → (get_or s p 0 ≡ 0 → ⊥) → u ≡ reset (process_at (program rows) p) s → u ≡ reset_started (content_at rows r).listed s
    link-stops z i = rw (h.members-are, started-other h.member (content_at rows q).listed s (λ y. z (sym member-row ∙ y)), ← process-there rows p h.member_is) i

-- the body of a WHILE
pub body-resets : (rows : List ℤ) (r : ℕ) (s : List ℕ) {b : ℕ} {t : List ℕ} → SingleIn rows r b → t ≡ reset (process_at (program rows) b) s → t ≡ reset_members (only_process (content_at rows b).process) s
body-resets rows r s {b} h i = let (p, e) = h.member_is in rw (e, every_one p s, ← process-there rows b e) i
